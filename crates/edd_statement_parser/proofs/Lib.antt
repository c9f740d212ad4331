pub mod BodyLoops
