-- The versions of the layout: their numbers, and how long their headers are.
use Rattle.std.specs.Prelude.{ℕ}
use Rattle.edd_image.specs.declared.versions.Version.{Version}
use Rattle.edd_image.specs.declared.versions.Version.TheVariants.{One, Two}

-- the number that stands for a version in the header
abbrev pub version_code : Version → ℕ
version_code One = 1
version_code Two = 2

-- the second version also says how many arrays and elements there are
abbrev pub header_size : Version → ℕ
header_size One = 56
header_size Two = 64
