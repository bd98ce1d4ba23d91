use Rattle.desk_replies.proofs.Prelude.{◌≡◌, ◌∙◌, ◌==◌, ℕ, List, [], ap, codes, length, not, sym, false≢true, OnOk, IsEmptyOr, ShowsPresentStops, states_of, IsItem}
use Rattle.desk_replies.proofs.PageLemmas.{item_if, not_empty, ok_has}
use Rattle.desk_replies.proofs.WrittenTexts.{sink_has, some_written}
use Rattle.desk_replies.proofs.page_items.write_stops_of.Goals as goal
use Rattle.desk_replies.proofs.page_items.write_stops_of.Goals.{then-is_ok, else-is_ok}

pub returns : goal.returns
returns g c =
    let name = c.args.account.name.now in
    let stops = ShowsPresentStops (states_of c.args.account.files) in
    let bytes = c.as_bytes-2.result.now in
    let made = c.write_present_stops-made.result in
    let written = c.write_present_stops-made.ensures in
    let has : OnOk made (IsEmptyOr stops bytes) =
    sink_has _ _ _ _ bytes (IsEmptyOr stops) made c.new-text.ensures.bytes c.as_bytes-2.ensures (some_written _ _ _ _ written.0 (IsEmptyOr stops) made written.2 written.1) in
    some_written g.W.Sink.contents g.W.Sink.has_failed _ _ _ (IsItem stops (codes "path") name) c.write_present.result c.write_present.ensures
    (item_if stops (codes "path") name bytes _ c.if-is_ok.text_if
    (elim c.if-is_ok.branch [
      | then-is_ok w ↦ λ e.
          let same : w.as_bytes.result.now ≡ bytes = cc in
          let some : bytes ≡ [] → ⊥ = λ none. false≢true (ap not (sym (w.is_empty.ensures ∙ ap (λ (xs : List ℕ). length xs == 0) (same ∙ none))) ∙ (sym w.text_if-is ∙ e)) in
          not_empty stops bytes some (ok_has (IsEmptyOr stops bytes) made (sym w.if-is_ok.ensures.value) has)
      | else-is_ok w ↦ λ e. absurd (false≢true (sym w.if-is_ok.false ∙ (sym w.text_if-is ∙ e)))
    ])
    c.text_if-shown.ensures)
