use Rattle.strip_files.proofs.Prelude.{ℕ, List, ◌≡◌, ◌∙◌, ◌++◌, [], ◌∷◌, length, ap, sym, subst, refl, arith, nat_tests, length-map, map_push, bytes_eq-Decides, Place, IsPlaceLine, places_of, PlacedBlock}
use Rattle.strip_files.proofs.Begun.{first_push}
use Rattle.strip_files.proofs.place_text.Placed.block.Goals as goal

pub returns-clause-listed : goal.returns-clause-listed
returns-clause-listed c =
    let found = c.in-Some-get.ensures.lookup in
    first_push c.args.listed.now c.args.self.now.blocks.items c.push.new.self.items c.len-2.result c.in-Some-get.block.now _ c.requires.listed (omega (arith, c.len-2.ensures)) found.3.0 (found.3.1 _) refl c.in_ok-push.ensures.items

pub returns-clause-place : goal.returns-clause-place
returns-clause-place c =
    let line : List ℕ = c.args.line.now in
    let old : List PlacedBlock = c.args.self.now.blocks.items in
    let place_of : PlacedBlock → List ℕ × Place = λ block. (block.name.now, block.place) in
    let block : List ℕ × Place = (c.in-Some-get.block.now.name.now, c.in-Some.place) in
    let added : places_of c.push.new.self.items ≡ places_of old ++ block ∷ [] = ap places_of c.in_ok-push.ensures.items ∙ map_push place_of old _ in
    let count : c.in-Some.number ≡ length (places_of old) = grind (arith, nat_tests, c.if-number-len.false, c.len.ensures, length-map old place_of) in
    let same : c.in-Some-get.block.now.name.now ≡ c.in-Some.name.now = (bytes_eq-Decides c.in-Some-get.block.now.name.now c.in-Some.name.now).0 (sym c.if-eq.ensures) in
    let named : IsPlaceLine c.in-Some.number line c.in-Some-get.block.now.name.now c.in-Some.place = subst (λ (name : List ℕ). IsPlaceLine c.in-Some.number line name c.in-Some.place) (sym same) c.in-Some.ensures in
    (block, added, subst (λ (n : ℕ). IsPlaceLine n line c.in-Some-get.block.now.name.now c.in-Some.place) count named)
