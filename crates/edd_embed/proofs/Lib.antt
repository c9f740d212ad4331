mod Going
mod Names
mod OtherValues
mod Standing
mod Writing
