use Rattle.layout_files.proofs.Prelude.{◌∷◌, ◌∙◌, List, All, ap, codes, Some, sym, arith, map-id, Node, text_of, left_after, IsSmallNode, EndsAtSink, node_lines}
use Rattle.layout_files.proofs.Halfway.{begun, each, last_of, next}
use Rattle.layout_files.proofs.ReadingRoutes.{line_there, path_begins, paths_texts}
use Rattle.layout_files.proofs.route_lines.read_paths.Goals as goal

pub loop-alloc-init : goal.loop-alloc-init
loop-alloc-init c = record {
  read = λ rows paths after small ends e.
      begun (λ k path. text_of (node_lines rows path)) (λ (path : List Node). path) paths (10 ∷ after) c.new-paths.result.items c.args.cursor.now c.new-paths.ensures.items (e ∙ ap Some (paths_texts rows paths (10 ∷ after)));
  shorter = omega arith;
}

pub loop-alloc-preserved : goal.loop-alloc-preserved
loop-alloc-preserved c = record {
  read = λ rows paths after small ends e.
      let left = c.loop-alloc.cursor in
      let inv = c.loop-alloc.invariant.read rows paths after small ends e in
      let n = next (λ k path. text_of (node_lines rows path)) (λ (path : List Node). path) paths (10 ∷ after) c.loop-alloc.paths.items left inv (line_there left after (sym c.has_line.ensures ∙ c.loop-alloc-test.true)) in
      let read = c.in_ok-nodes.ensures.read rows n.element n.rest (each (All IsSmallNode) paths _ n.element small n.at) (each EndsAtSink paths _ n.element ends n.at) n.text in
      n.then c.push.new.self.items c.read_nodes.new.cursor _ c.in_ok-push.ensures.items read.1 (c.new.ensures ∙ read.0);
  shorter = omega (arith, c.in_ok-nodes.ensures.shorter, c.loop-alloc.invariant.shorter);
}

pub returns-clause-read : goal.returns-clause-read
returns-clause-read c = λ rows paths after small ends e.
    let left = c.loop-alloc.cursor in
    let inv = c.loop-alloc.invariant.read rows paths after small ends e in
    let done = last_of (λ k path. text_of (node_lines rows path)) (λ (path : List Node). path) paths (10 ∷ after) c.loop-alloc.paths.items left inv
    (λ k path rest at t. path_begins left rows path rest (each EndsAtSink paths k path ends at) (sym c.has_line.ensures ∙ c.loop-alloc-test.false) t) in
    (done.0 ∙ map-id paths, c.text.ensures.left ∙ ap (λ v. left_after v (codes "\n")) done.1)
