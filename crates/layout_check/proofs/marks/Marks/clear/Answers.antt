use Rattle.layout_check.proofs.Prelude.{◌∙◌, ◌+◌, ◌≡◌, ap, map, eqb, arith, length, replicate, false, sym, subst, Bool, ℕ, List, length-map, length-replicate, IsClear, is_in}
use Rattle.layout_check.proofs.Stamps.{all_old, in_empty, none_stamped}
use Rattle.layout_check.proofs.marks.Marks.clear.Goals as goal

cleared : (marks old : List Bool) (count : ℕ) → marks ≡ replicate count false → count ≡ length old → IsClear marks × (length marks ≡ length old)
cleared marks old count is e = (λ number. subst (λ (m : List Bool). is_in m number ≡ false) (sym is) (in_empty count number), ap length is ∙ length-replicate count false ∙ e)

pub returns-then-self-lt18446744073709551615 : goal.returns-then-self-lt18446744073709551615
returns-then-self-lt18446744073709551615 c =
    let both = cleared _ c.args.self.now (length c.self.inside.stamps.items) (all_old c.self.inside.epoch (c.self.inside.epoch + 1) c.self.inside.stamps.items (omega arith) c.self.invariant.1)
    (sym (length-map c.self.inside.stamps.items (λ stamp. eqb stamp c.self.inside.epoch)) ∙ ap length c.self.view_is) in
    record { clear = both.0; long = both.1 }

pub returns-else-self-lt18446744073709551615 : goal.returns-else-self-lt18446744073709551615
returns-else-self-lt18446744073709551615 c =
    let both = cleared _ c.args.self.now (length c.self.inside.stamps.items) (ap (map (λ stamp. eqb stamp 1)) c.erase.ensures ∙ none_stamped (length c.self.inside.stamps.items))
    (sym (length-map c.self.inside.stamps.items (λ stamp. eqb stamp c.self.inside.epoch)) ∙ ap length c.self.view_is) in
    record { clear = both.0; long = both.1 }
