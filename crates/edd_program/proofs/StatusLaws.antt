-- Where a request stops, and what its status says.
use Rattle.std.proofs.Common.{◌≡◌, ◌≢◌, subst, refl, sym, ap, ◌∙◌, ℕ, true, false, List, Option, Some, None, ◌⊎◌, inl, inr}
use denote.Bor.{Bor}
use Rattle.std.specs.Prelude.{IfErr, IfSome, Result, Ok, Err, option_map, string_bytes}
use Rattle.std.specs.Io.KnownBytes.{Appends}
use Rattle.edd_compiler.specs.Images.{IsImageOf}
use Rattle.edd_display.specs.declared.fault.ShowFault.{ShowFault}
use Rattle.edd_display.specs.declared.fault.ShowFault.TheVariants as show_fault
use Rattle.edd_display.specs.Shown.{blames_values}
use Rattle.edd_files.specs.declared.named.NamedFault.{NamedFault}
use Rattle.edd_files.specs.declared.named.NamedFault.TheVariants as named_fault
use Rattle.edd_files.specs.Names.{file_named, input_name}
use Rattle.edd_files.specs.Saves.{Account, Gave, GaveScript}
use Rattle.edd_program.specs.declared.request.Request.{Request}
use Rattle.edd_program.specs.declared.request.Request.TheVariants.{Play, Show, Try, View}
use Rattle.edd_program.specs.declared.request.Run.{Run}
use Rattle.edd_program.specs.declared.request.Showing.{Showing}
use Rattle.edd_program.specs.declared.stop.Stop.{Stop}
use Rattle.edd_program.specs.declared.stop.Stop.TheVariants as stop
use Rattle.edd_program.specs.Reasons.{Blames, BlamesNoRun, BlamesRun, of_named, of_show}
use Rattle.edd_program.specs.Refusals.{TellsRefusal, TellsRefusalOf, file_in, is_failure, is_of_text, refusal_in}
use Rattle.edd_program.specs.Statuses.{Behind, Fails, IsEither, IsFailure, IsRefusedText, Names, Refuses, Stops, StopsBy, file_line, is_refusal, refusal_line}

-- what holds of a fault, and what follows from it
pub on_err : {A E : Type 0} {P Q : E → Type 0} (r : Result A E) → IfErr r P → ((e : E) → P e → Q e)
    → IfErr r Q
on_err (Ok x) is so = tt
on_err (Err e) is so = so e is

module _ (compiled : (words : List ℕ) → Type 0) (behind : Stop → Type 0)
    (named : (file : List ℕ) → Type 0) (old new : Option (List ℕ)) where
  -- a file or memory, before anything is printed
  pub failed : (s : Stop) → IsFailure named s → new ≡ old
      → StopsBy compiled behind named old new s
  failed (stop.File name) is same = (is, same)
  failed stop.Memory is same = tt
  failed _ is same = absurd is

  pub of_file : (fault : NamedFault) → IfSome (file_named fault) named → new ≡ old
      → StopsBy compiled behind named old new (of_named fault)
  of_file (named_fault.File name why) is same = (is, same)
  of_file named_fault.Memory is same = tt

  -- the output or memory, while lines are printed
  pub printed : (fault : ShowFault) → blames_values fault ≡ false
      → StopsBy compiled behind named old new (of_show fault)
  printed show_fault.Memory is = tt
  printed show_fault.Output is = tt
  printed show_fault.WrongValues is = absurd cc

  -- the text of the source
  pub of_text : (s : Stop) → is_of_text s ≡ true → IfSome (refusal_in s) compiled → new ≡ old
      → StopsBy compiled behind named old new s
  of_text (stop.NotCompiled words) is told same = (told, same)
  of_text stop.Memory is told same = tt
  of_text _ is told same = absurd cc

  -- what is behind the text of a source, or an image
  pub blamed : (bytes script : List ℕ) (of_run : Stop → Type 0) (s : Stop)
      → Blames bytes script of_run s → (Blames bytes script of_run s → behind s)
      → StopsBy compiled behind named old new s
  blamed bytes script of_run (stop.File name) why so = absurd why.1
  blamed bytes script of_run (stop.NotCompiled words) why so = absurd why.1
  blamed bytes script of_run stop.Output why so = tt
  blamed bytes script of_run stop.Memory why so = tt
  blamed bytes script of_run (stop.NotLoaded fault) why so = so why
  blamed bytes script of_run (stop.TextAsImage line) why so = so why
  blamed bytes script of_run (stop.Script fault) why so = so why
  blamed bytes script of_run (stop.Values fault) why so = so why
  blamed bytes script of_run (stop.NoMethod name) why so = so why
  blamed bytes script of_run (stop.Play fault) why so = so why

module _ (account : Option Account) (old new : Option (List ℕ)) (bytes script : List ℕ) (s : Stop)
  where
    pub shows_behind : (showing : Showing) → Gave account (input_name showing.file.now) bytes
        → GaveScript account (option_map (λ name. name.now) showing.script) script
        → Blames bytes script BlamesNoRun s → Stops (Show showing) account old new s
    shows_behind showing gave given why =
        blamed (IsRefusedText (Show showing) account) (Behind (Show showing) account)
        (Names (Show showing)) old new bytes script BlamesNoRun s why
        (λ so. (bytes, script, gave, given, so))

    pub plays_behind : (image : Bor (List ℕ)) (run : Run) → Gave account (input_name image.now) bytes
        → GaveScript account (Some run.script.now) script
        → Blames bytes script (BlamesRun bytes script run.method.now run.steps) s
        → Stops (Play image run) account old new s
    plays_behind image run gave given why =
        blamed (IsRefusedText (Play image run) account) (Behind (Play image run) account)
        (Names (Play image run)) old new bytes script
        (BlamesRun bytes script run.method.now run.steps) s why (λ so. (bytes, script, gave, given, so))

    pub views_behind : (showing : Showing) (text : List ℕ)
        → Gave account (input_name showing.file.now) text → IsImageOf text bytes
        → GaveScript account (option_map (λ name. name.now) showing.script) script
        → Blames bytes script BlamesNoRun s → Stops (View showing) account old new s
    views_behind showing text gave is given why =
        blamed (IsRefusedText (View showing) account) (Behind (View showing) account)
        (Names (View showing)) old new bytes script BlamesNoRun s why
        (λ so. (text, bytes, script, gave, is, given, so))

    pub tries_behind : (source : Bor (List ℕ)) (run : Run) (text : List ℕ)
        → Gave account (input_name source.now) text → IsImageOf text bytes
        → GaveScript account (Some run.script.now) script
        → Blames bytes script (BlamesRun bytes script run.method.now run.steps) s
        → Stops (Try source run) account old new s
    tries_behind source run text gave is given why =
        blamed (IsRefusedText (Try source run) account) (Behind (Try source run) account)
        (Names (Try source run)) old new bytes script
        (BlamesRun bytes script run.method.now run.steps) s why
        (λ so. (text, bytes, script, gave, is, given, so))

-- one of the files that are taken
pub of_description : (description : List ℕ) (script : Option (List ℕ)) (fault : NamedFault)
    → IfSome (file_named fault) (λ file. file ≡ description)
    → IsFailure (IsEither description script) (of_named fault)
of_description description script (named_fault.File name why) is = inl is
of_description description script named_fault.Memory is = tt

pub of_its_script : (description : List ℕ) (script : Option (List ℕ)) (fault : NamedFault)
    → IfSome (file_named fault) (λ file. script ≡ Some file)
    → IsFailure (IsEither description script) (of_named fault)
of_its_script description script (named_fault.File name why) is = inr is
of_its_script description script named_fault.Memory is = tt

-- of what a file gave what is told of the text
pub told_of_file : (account : Option Account) (source text : List ℕ) (s : Stop)
    → Gave account (input_name source) text → TellsRefusal text s
    → TellsRefusalOf account source s
told_of_file account source text (stop.NotCompiled words) gave tells =
    (text, gave, tells.0, tells.1, tells.2)
told_of_file account source text _ gave tells = tt

-- ---- the status

pub refuses : (request : Request) (account : Option Account) (old mid new : Option (List ℕ))
    (s : Stop) → Stops request account old mid s → is_refusal s ≡ true
    → IfSome (refusal_in s) (λ words. Appends mid new (refusal_line words))
    → Refuses request account old new
refuses request account old mid new (stop.NotCompiled words) stops is told =
    inl (
      string_bytes words,
      stops.0,
      subst (λ (o : Option (List ℕ)). Appends o new (refusal_line (string_bytes words))) stops.1 told,
    )
refuses request account old mid new (stop.File name) stops is told = absurd cc
refuses request account old mid new stop.Output stops is told = absurd cc
refuses request account old mid new stop.Memory stops is told = absurd cc
refuses request account old mid new (stop.NotLoaded fault) stops is told =
    inr (stop.NotLoaded fault, refl, refl, stops)
refuses request account old mid new (stop.TextAsImage line) stops is told =
    inr (stop.TextAsImage line, refl, refl, stops)
refuses request account old mid new (stop.Script fault) stops is told =
    inr (stop.Script fault, refl, refl, stops)
refuses request account old mid new (stop.Values fault) stops is told =
    inr (stop.Values fault, refl, refl, stops)
refuses request account old mid new (stop.NoMethod name) stops is told =
    inr (stop.NoMethod name, refl, refl, stops)
refuses request account old mid new (stop.Play fault) stops is told =
    inr (stop.Play fault, refl, refl, stops)

pub fails : (request : Request) (account : Option Account) (old mid new : Option (List ℕ))
    (s : Stop) → Stops request account old mid s → is_failure s ≡ true → s ≢ stop.Output
    → IfSome (file_in s) (λ name. Appends mid new (file_line name))
    → Fails request old new
fails request account old mid new (stop.File name) stops is other told = (
  name.now,
  stops.0,
  subst (λ (o : Option (List ℕ)). Appends o new (file_line name.now)) stops.1 told,
)
fails request account old mid new stop.Output stops is other told = absurd (other refl)
fails request account old mid new _ stops is other told = absurd cc
