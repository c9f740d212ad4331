mod LineEnds
mod Decimals
mod WordStarts
mod NameLaws
mod Texts
mod Turns
mod Worked
