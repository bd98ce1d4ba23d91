-- The last pass of a placing.
use Rattle.one_user.proofs.Prelude.{ℕ, ◌≡◌, ◌<◌, ◌≤◌, false, arith, pass_count, pass_count_is, PlacingUnderWay, end_of, is_past_last, one_more, MAX_PASSES, AreAllPasses, Last}

abbrev pub with_passes : PlacingUnderWay → ℕ → PlacingUnderWay
with_passes placing passes = record placing { passes = passes }

-- with the last pass, it has made all
pub last_pass : (start now new : PlacingUnderWay) (passes : ℕ) → passes < MAX_PASSES → now ≡ with_passes start passes → ((fewer : ℕ) → fewer ≤ passes → is_past_last start.strip fewer ≡ false) → new ≡ one_more now → Last ≡ end_of new →
    (new ≡ with_passes start (pass_count start.strip)) × AreAllPasses start.strip (pass_count start.strip)
last_pass start now new passes few is before after ended = search (pass_count_is, arith)
