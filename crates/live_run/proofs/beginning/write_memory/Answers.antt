use Rattle.live_run.proofs.Prelude.{◌≡◌, ℕ, Bool, if◌then◌else◌, List, [], ◌∷◌, ap, subst, sym, ne_eqb, concat, codes, decimal, memory_words}
use Rattle.line_text.specs.Writing.{Writes}
use Rattle.live_run.proofs.beginning.write_memory.Goals as goal

pub returns : goal.returns
returns g c =
    let words : List ℕ = concat (codes " --tenant-memory " ∷ decimal c.args.memory ∷ []) in
    let is : memory_words c.args.memory ≡ words = ap (λ (b : Bool). if b then [] else words) (ne_eqb c.args.memory 256 c.if-memory-eq-TENANT_MEMORY.false) in
    subst (λ (text : List ℕ). Writes g.K.Sink.contents g.K.Sink.has_failed c.args.sink.now c.write_slices.new.sink text c.write_slices.result) (sym is)
    (rw (c.as_bytes.ensures.value, c.format.ensures.text) at c.write_slices.ensures)
