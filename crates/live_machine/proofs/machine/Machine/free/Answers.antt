use Rattle.live_machine.proofs.Prelude.{IfSome, ◌≡◌, ℕ, List, refl, subst, sym, ◌∙◌, held_of, OpenText, Begun, ServesAll, state_with}
use Rattle.live_machine.proofs.MachineLemmas.{freed_as, frees_by, if_some, on_ok, text_if}
use Rattle.live_machine.proofs.machine.Machine.free.Goals as goal

pub returns-in-Begun-clause-frees : goal.returns-in-Begun-clause-frees
returns-in-Begun-clause-frees c =
    let names = c.args.self.now.held in
    let held = c.remove.new.self in
    let name = c.args.name.now in
    let T : OpenText → Type 0 = λ t. IfSome (held_of names name) (λ h. t ≡ h.text) in
    let P : List (List ℕ) → Type 0 = λ lines. ServesAll name lines (state_with c.args.self.now.server held) (state_with c.serve_lines.new.self held) in
    on_ok c.serve_lines.result
    (λ serves. frees_by (held_of names name) _ _ name (Begun c.in-Begun.lines) held refl (subst T c.in-Begun.is (text_if (held_of names name) c.remove.result c.remove.ensures.text))
    (if_some (held_of names name) (λ h is. sym is ∙ c.if-has_lost_text.false) c.has_lost_text.ensures) c.remove.ensures.names (subst P c.as_bytes.ensures.lines (serves held)))
    c.serve_lines.ensures.serves

pub returns-in-NoText : goal.returns-in-NoText
returns-in-NoText c =
    let names = c.args.self.now.held in
    let held = c.remove.new.self in
    let name = c.args.name.now in
    record {
      ready = c.requires.ready;
      frees = frees_by (held_of names name) _ _ name c.remove.result held refl (text_if (held_of names name) c.remove.result c.remove.ensures.text)
          (if_some (held_of names name) (λ h is. sym is ∙ c.if-has_lost_text.false) c.has_lost_text.ensures) c.remove.ensures.names
          (freed_as c.remove.result name (state_with c.args.self.now.server held) c.in-NoText.is);
    }
