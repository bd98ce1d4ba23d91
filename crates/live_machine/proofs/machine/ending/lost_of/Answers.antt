use Rattle.live_machine.proofs.Prelude.{option_copied, option_map, slice_get, ◌≡◌, ◌<◌, [], ◌∷◌, ◌++◌, Some, None, length, take, sym, ap, ◌∙◌, arith, rules, no_memory_text, output_of, for_name, Held, lost_texts}
use Rattle.live_machine.proofs.EndLemmas.{next_lost, none_past}
use Rattle.live_machine.proofs.machine.ending.lost_of.Goals as goal
use Rattle.live_machine.proofs.machine.ending.lost_of.Goals.{in-Some+in_ok-lost+in_ok-extend_from_slice, in_default}

pub loop-place-preserved : goal.loop-place-preserved
loop-place-preserved c =
    let held = c.args.held.now in
    let place = c.loop-place.place in
    elim c.match-name_at.branch [
      | in-Some+in_ok-lost+in_ok-extend_from_slice w ↦
          let name = w.in-Some.name.now in
          let named : option_map (λ (h : Held). h.name) (slice_get held place) ≡ Some name = sym c.name_at.ensures ∙ ap option_copied w.in-Some.is in
          let more : c.match-name_at.text.items ≡ lost_texts (take place held) ++ output_of (for_name name no_memory_text ∷ []) = search rules in
          more ∙ sym (next_lost held place name named)
      | in_default w ↦
          let gone : c.name_at.result ≡ None = search rules in
          let past = none_past held place (sym c.name_at.ensures ∙ ap option_copied gone) in
          let before : place < length held = search rules in
          absurd (omega (arith, past, before))
    ]
