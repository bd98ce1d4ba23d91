-- Moves that are written after the gaps.
use Rattle.desk_replies.proofs.Prelude.{◌≡◌, ℕ, Bool, List, Option, subst, all_then, TakesAll, Report, gaps_of, PlacedStrip, AreJoined, AreJoining, AreMoves, gaps_text, strips_of}

pub moves_written : {S : Type 0} {contents : S → Option (List ℕ)} {has_failed : S → Bool} {a b c : S} (report : Report) (strips : List PlacedStrip) → strips ≡ strips_of report →
    TakesAll contents has_failed a b (gaps_text (gaps_of report.size.columns strips) report.widest) →
    AreJoined contents has_failed b c report.tenancies.items (record { columns = report.size.columns; strips = strips }) → AreMoves contents has_failed a c report
moves_written {contents = contents} {has_failed = has_failed} {a = a} {b = b} report strips e gaps joined = (
  joined.0,
  subst (λ (these : List PlacedStrip). AreJoining (record { columns = report.size.columns; strips = these }) joined.0) e joined.1,
  all_then (subst (λ (these : List PlacedStrip). TakesAll contents has_failed a b (gaps_text (gaps_of report.size.columns these) report.widest)) e gaps) joined.2,
)
