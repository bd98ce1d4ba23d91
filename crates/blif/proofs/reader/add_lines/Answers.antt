use Rattle.blif.proofs.Prelude.{[], ◌<◌, ◌++◌, ◌∙◌, length, refl, ap, arith, JoinedLine, has_name, number_of, with_names, names_in, names_of}
use Rattle.std.proofs.Common.{flat_map}
use Rattle.blif.proofs.Named.{all_named, list_all-part}
use Rattle.blif.proofs.Numbered.{enough_numbers, own_numbers, later_numbers}
use Rattle.blif.proofs.Building.{parts_at, undriven_at, no_undriven_at, fails_as}
use Rattle.blif.proofs.reader.add_lines.Goals as goal

pub loop-place-init : goal.loop-place-init
loop-place-init c = record { parts = c.requires.empty; rest = c.requires.all.numbers; faults_left = refl }

pub split_at-requires : goal.split_at-requires
split_at-requires c =
    let line : JoinedLine = c.line-line.result in
    enough_numbers (number_of c.args.driven.now.nets) c.args.lines.now c.loop-place.place line (omega arith) c.line-line.ensures c.loop-place.rest.now c.net_count.result c.loop-place.invariant.rest
    (c.net_count.ensures ∙ ap (λ k. length (names_in k line.words)) c.keyword_of-keyword.ensures)

pub add_line-requires : goal.add_line-requires
add_line-requires c =
    let line : JoinedLine = c.line-line.result in
    let names = flat_map names_of c.args.lines.now in
    record {
      named = rw (c.keyword_of-keyword.ensures, c.requires.all.nets) (list_all-part (has_name (with_names [] names)) names_of c.args.lines.now c.loop-place.place line (all_named [] names) c.line-line.ensures);
      numbers = rw c.keyword_of-keyword.ensures
          (own_numbers (number_of c.args.driven.now.nets) c.args.lines.now c.loop-place.place line (omega arith) c.line-line.ensures c.loop-place.rest.now c.net_count.result c.loop-place.invariant.rest
          (c.net_count.ensures ∙ ap (λ k. length (names_in k line.words)) c.keyword_of-keyword.ensures) c.split_at.result.0.now c.split_at.ensures.front);
    }

pub returns-in-Some : goal.returns-in-Some
returns-in-Some c =
    let line : JoinedLine = c.line-line.result in
    let driven = c.args.driven.now in
    let least = rw c.in-Some.is at c.in_ok-net.ensures.least in
    fails_as c.undriven_at.result _ _ (rw c.number.ensures at c.undriven_at.ensures)
    (undriven_at driven.nets (driven.clocks ++ driven.drivers) c.args.lines.now c.loop-place.place line (omega arith) c.line-line.ensures c.in-Some.net.now (rw c.keyword_of-keyword.ensures at least) c.loop-place.invariant.faults_left)

pub loop-place-preserved : goal.loop-place-preserved
loop-place-preserved c =
    let line : JoinedLine = c.line-line.result in
    let within : c.loop-place.place < length c.args.lines.now = omega arith in
    let driven = c.args.driven.now in
    let least = rw c.in_default.is at c.in_ok-net.ensures.least in
    let parts = rw c.in_default.is at c.in_ok-net.ensures.parts in
    record {
      parts = parts_at driven.nets (driven.clocks ++ driven.drivers) c.args.lines.now c.loop-place.place line within c.line-line.ensures c.loop-place.parts c.add_line.new.self c.loop-place.invariant.parts (rw c.keyword_of-keyword.ensures at parts);
      rest = later_numbers (number_of driven.nets) c.args.lines.now c.loop-place.place line within c.line-line.ensures c.loop-place.rest.now c.net_count.result c.loop-place.invariant.rest
          (c.net_count.ensures ∙ ap (λ k. length (names_in k line.words)) c.keyword_of-keyword.ensures) c.split_at.result.1.now c.split_at.ensures.back;
      faults_left = no_undriven_at driven.nets (driven.clocks ++ driven.drivers) c.args.lines.now c.loop-place.place line within c.line-line.ensures (rw c.keyword_of-keyword.ensures at least) c.loop-place.invariant.faults_left;
    }
