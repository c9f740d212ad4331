pub mod Items
pub mod Units
pub use Rattle.edd_token_reader.specs.TokenTexts
pub use Rattle.edd_token_reader.specs.Views
