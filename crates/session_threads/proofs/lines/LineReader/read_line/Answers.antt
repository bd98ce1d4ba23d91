use Rattle.session_threads.proofs.Prelude.{ℕ, Option, Ok, subst, prepend_known, GivesByte}
use Rattle.session_threads.proofs.LineLemmas.{reads_more}
use Rattle.session_threads.proofs.lines.LineReader.read_line.Goals as goal

pub loop-preserved : goal.loop-preserved
loop-preserved g c =
    let P : Option ℕ → Type 0 = λ byte. GivesByte (prepend_known c.loop.self.input (g.S.Source.remaining c.loop.source)) (prepend_known c.next_byte.new.self (g.S.Source.remaining c.next_byte.new.source)) (Ok byte) in
    let gives = subst P c.in-Some-2.is c.in_ok-next_byte.ensures.byte in
    reads_more _ _ _ _ _ _ c.loop.invariant c.in-Some-2.byte-test.1 gives c.push.ensures
