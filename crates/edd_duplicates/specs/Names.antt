-- What is told of a name or a word that is there already. `before` are those so far.
use Rattle.std.specs.Prelude.{List}
use Rattle.edd_breaches.specs.Told.{Told, told_if}
use Rattle.edd_syntax.specs.declared.numbers.TokenNo.{TokenNo}
use Rattle.edd_syntax.specs.Refusal.{DuplicateAttribute, DuplicateName, is_name_in}
use Rattle.edd_syntax.specs.Text.{Name}

-- a name at a token
abbrev pub name_told : (before : List Name) → Name → TokenNo → List Told
name_told before name at = told_if (is_name_in before name) (DuplicateName name) at

-- a word of an attribute at a token
abbrev pub word_told : (before : List Name) → Name → TokenNo → List Told
word_told before word at = told_if (is_name_in before word) (DuplicateAttribute word) at
