-- What is saved is an image of what the source gave.
use Rattle.std.proofs.Common.{◌≡◌, refl, subst, sym}
use Rattle.std.specs.Option.{option_map}
use Rattle.edd_compiler.specs.Images.{IsImageOf}
use Rattle.edd_files.specs.Saves.{IsImageSaving, image_saving, with_saving}
use Rattle.edd_files.proofs.SavesLaws.{saves_this}
use Rattle.edd_files.proofs.compiling.save_image.Goals as goal

pub returns-clause-saves : goal.returns-clause-saves
returns-clause-saves g c =
    let before = g.F.Files.account c.args.files.now in
    let after = g.F.Files.account c.save_bytes.new.files in
    let text = c.in_ok-text.text.items in
    let saving = image_saving c.args.image.now c.deref-2.result.now in
    let image : IsImageOf text c.deref-2.result.now =
    subst (IsImageOf text) (sym c.deref-2.ensures.value)
    (subst (λ text. IsImageOf text c.in-Ok.bytes.items) c.deref.ensures.value
    c.in-Ok.ensures.sound) in
    saves_this (IsImageSaving before c.args.source.now c.args.image.now) saving before after
    (subst (λ account. after ≡ option_map (with_saving saving) account) c.in_ok-text.ensures.kept
    c.in_ok-save_bytes.ensures.saved)
    (refl, text, c.in_ok-text.ensures.sound, image)
