use Rattle.std.proofs.Common.{refl, [], codes}
use Rattle.edd_image.specs.Fields.{number_at}
use Rattle.edd_image.specs.Front.{number_from}
use Rattle.test_definitions.proofs.arrays.array_sources.Goals as goal

pub returns : goal.returns
unfolding number_at number_from
returns c = record {
  tokens = (
    _,
    _,
    refl,
    refl,
    (
      _,
      _,
      (
        refl,
        (
          _,
          refl,
          (
            _,
            (_, _, refl, (refl, refl), refl),
            (
              _,
              (
                _,
                _,
                refl,
                (refl, refl),
                (
                  _,
                  (_, refl, (codes "l", [], refl, (_, refl, (refl, λ h. h)))),
                  (_, refl, (codes "h", [], refl, (_, refl, (refl, λ h. h)))),
                ),
              ),
              refl,
            ),
          ),
        ),
      ),
      0,
      refl,
      refl,
    ),
  );
  row = refl;
  fields = refl;
}
