pub mod SavesLaws
