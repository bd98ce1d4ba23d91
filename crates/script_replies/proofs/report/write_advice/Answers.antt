use Rattle.script_replies.proofs.Prelude.{◌≡◌, ℕ, List, Bor, Option, Some, None, refl, option_map_or, unwrap_or}
use Rattle.script_replies.proofs.report.write_advice.Goals as goal

-- a text, or another one if it is missing
unwrapped : (text : Option (Bor (List ℕ))) (other : Bor (List ℕ)) → (unwrap_or text other).now ≡ option_map_or {T = Bor (List ℕ)} {U = List ℕ} (λ a. a.now) text other.now
unwrapped (Some text) other = refl
unwrapped None other = refl

pub returns : goal.returns
returns g c =
    rw (c.text_if.ensures, c.is_some.ensures, c.number.ensures, c.text_if-2.ensures, c.is_some-2.ensures, c.unwrap_or.ensures, unwrapped c.args.told.now.advice)
    at c.write_parts.ensures
