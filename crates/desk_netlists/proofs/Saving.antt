-- Files that are written if they are asked for.
use Rattle.desk_netlists.proofs.Prelude.{◌≡◌, ℕ, Bool, true, List, [], ◌∷◌, ◌++◌, ◌∙◌, Option, Some, None, Result, Ok, Err, IfOk, IfSome, IsSomeAnd, MatchResult, codes, subst, sym, ap, same_Some, IfOk-weaker, configuration_text, AreAdded, NamedBytes, Outcome, added_then, LaidCircuit, JoinedLine, lines_of, Files, FlowOutcome, AreExtras, AreWritten, IsCheckedExtra, IsConfigured, IsExtra, IsLaidIn, IsRoutedOf, if_asked, of_kind, three_files, RouteJob, Routed}
use Rattle.one_user.specs.declared.outcome.FlowOutcome.TheVariants as outcome

-- the file of that kind, if making it did not fail
abbrev IsSaved : RouteJob → List ℕ → List ℕ → Option (List NamedBytes) → Option (List NamedBytes) → Result (Unit {0}) Outcome → Type 0
IsSaved job kind text old new made = MatchResult made (λ _. AreAdded old new (of_kind job kind text ∷ [])) (λ _. ⊥)

added_if : (job : RouteJob) (kind text : List ℕ) (asked : Bool) (old new : Option (List NamedBytes)) (made : Result (Unit {0}) Outcome) → asked ≡ true → IsSaved job kind text old new made → AreAdded old new (if_asked asked (of_kind job kind text))
added_if job kind text asked old new (Ok u) e h = subst (λ b. AreAdded old new (if_asked b (of_kind job kind text))) (sym e) h
added_if job kind text asked old new (Err o) e h = absurd h

pub extra_if_asked : (job : RouteJob) (kind text : List ℕ) (asked : Bool) (old new : Option (List NamedBytes)) (made : Result (Unit {0}) Outcome) → asked ≡ true → IsSaved job kind text old new made → IsExtra job kind asked old new
extra_if_asked job kind text asked old new made e h = (text, added_if job kind text asked old new made e h)

pub configured_if_asked : (job : RouteJob) (routed : Routed) (laid : LaidCircuit) (none text : List ℕ) (old new : Option (List NamedBytes)) (made : Result (Unit {0}) Outcome) → job.wishes.extras.has_configuration ≡ true → Some none ≡ Some [] →
    IfOk made (λ _. (lines : List JoinedLine) × (lines_of routed.netlist.now ≡ Ok lines) × (text ≡ none ++ configuration_text lines laid.circuit laid.arch laid.strip laid.layout)) → IsSaved job (codes "configuration") text old new made →
    IsConfigured job routed laid old new
configured_if_asked job routed laid none text old new (Ok u) e empty made h = (
  text,
  (λ _. record { lines = made.0; lines_are = made.1; text_is = made.2 ∙ ap (λ l. l ++ configuration_text made.0 laid.circuit laid.arch laid.strip laid.layout) (same_Some none [] empty) }),
  subst (λ b. AreAdded old new (if_asked b (of_kind job (codes "configuration") text))) (sym e) h,
)
configured_if_asked job routed laid none text old new (Err o) e empty made h = absurd h

pub checked_so : (job : RouteJob) (routed : Routed) (laid : LaidCircuit) (old new : Option (List NamedBytes)) → IsLaidIn routed laid → IsConfigured job routed laid old new → IsCheckedExtra job routed old new
checked_so job routed laid old new laid_in h = (h.0, record { verdict = λ _. (laid, laid_in); configuration = λ asked. (laid, laid_in, h.1 asked) }, h.2)

pub all_extras : (job : RouteJob) (routed : Routed) (a b c d : Option (List NamedBytes)) → IsExtra job (codes "svg") job.wishes.extras.has_picture a b → IsExtra job (codes "html") job.wishes.extras.has_page b c →
    IsCheckedExtra job routed c d → AreExtras job routed a d
all_extras job routed a b c d picture page configuration = (
  record { picture = picture.0; page = page.0; configuration = configuration.0 },
  configuration.1,
  added_then a b d _ _ picture.1 (added_then b c d _ _ page.1 configuration.2),
)

pub written_if : (job : RouteJob) (files : Files) (routed : Option Routed) (ended : FlowOutcome) (a b c : Option (List NamedBytes)) (r : Result (Unit {0}) Outcome) → ended ≡ outcome.Routed files → AreAdded a b (three_files job files) →
    IfSome routed (IsRoutedOf job files) → IfOk r (λ _. IsSomeAnd routed (λ routed. AreExtras job routed b c)) → IfOk r (λ _. AreWritten job ended a c)
written_if job files routed ended a b c r e saved of h = IfOk-weaker r _ _ (λ _. go routed of) h
  where
    go : (routed : Option Routed) → IfSome routed (IsRoutedOf job files) → IsSomeAnd routed (λ routed. AreExtras job routed b c) → AreWritten job ended a c
    go (Some routed) of h = record { files = files; is_routed = e; routed = routed; of = of; extras = h.0; checked = h.1; written = added_then a b c _ _ saved h.2 }
    go None of h = absurd h
