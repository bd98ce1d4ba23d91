use Rattle.printed_replies.proofs.Prelude.{rules, ◌<◌, ◌++◌, [], ◌∷◌, List, ℕ, length, map, replicate, set, get_or, ap, ◌∙◌, sym, number_of, asked_line}
use Rattle.printed_replies.proofs.SectionLemmas.{none_yet, operator_more, operator_stays, session_more, sessions_stay}
use Rattle.printed_replies.proofs.sections.add_all.Goals as goal
use Rattle.printed_replies.proofs.sections.add_all.Goals.{in-None+in_ok-push-in-None, in-Some+in_ok-add_place-in-Some}

pub loop-place-init : goal.loop-place-init
loop-place-init c = record {
  operator = c.requires.operator;
  sessions = c.in_ok-add_empty.ensures ∙ ap (λ n. replicate {A = List ℕ} n []) c.len.ensures ∙ none_yet c.args.names.now (map asked_line c.args.asked.now);
}

pub loop-place-preserved : goal.loop-place-preserved
loop-place-preserved c =
    let asked = c.args.asked.now in
    let names = c.args.names.now in
    let place = c.loop-place.place in
    let within : place < length asked = search rules in
    elim c.match-asked-place.branch [
      | in-None+in_ok-push-in-None w ↦ record {
        operator = ap (λ v. v.items) w.operator-is ∙ w.in_ok-push-in-None.ensures.items ∙ ap (λ ps. ps ++ place ∷ []) c.loop-place.invariant.operator ∙ sym (operator_more asked names place within w.in-None.is);
        sessions = ap (λ v. map (λ places. places.items) v.items) w.sessions-is ∙ c.loop-place.invariant.sessions ∙ sym (sessions_stay asked names place within w.in-None.is);
      }
      | in-Some+in_ok-add_place-in-Some w ↦ record {
        operator = ap (λ v. v.items) w.operator-is ∙ c.loop-place.invariant.operator ∙ sym (operator_stays asked names place within w.in-Some.name w.in-Some.is);
        sessions = ap (λ v. map (λ places. places.items) v.items) w.sessions-is ∙ w.in_ok-add_place-in-Some.ensures
            ∙ ap (λ n. set (map (λ places. places.items) c.loop-place.sessions.items) n (get_or (map (λ places. places.items) c.loop-place.sessions.items) n [] ++ place ∷ [])) w.number.ensures.number
            ∙ ap (λ (ls : List (List ℕ)). set ls (number_of names w.in-Some.name.now) (get_or ls (number_of names w.in-Some.name.now) [] ++ place ∷ [])) c.loop-place.invariant.sessions
            ∙ sym (session_more asked names place within w.in-Some.name c.requires.names w.in-Some.is);
      }
    ]
