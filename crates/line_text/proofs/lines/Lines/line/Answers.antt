use Rattle.line_text.proofs.Prelude.{◌≡◌, ℕ, zero, suc, ◌-◌, ◌<◌, List, [], ◌∷◌, Some, map, take, drop, length, get_or, slice_get, ap, sym, ◌∙◌, arith, Bor, take-map, drop-map, length-map, Span, seen_line, seen_lines, texts}
use Rattle.line_text.proofs.lines.Lines.line.Goals as goal

slice_get-map : {X Y : Type 0} (f : X → Y) (xs : List X) (i : ℕ) (x : X) → i < length xs → x ≡ get_or xs i x → slice_get (map f xs) i ≡ Some (f x)
slice_get-map f [] i x h e = absurd (omega arith)
slice_get-map f (y ∷ ys) zero x h e = ap (λ z. Some (f z)) (sym e)
slice_get-map f (y ∷ ys) (suc i) x h e = slice_get-map f ys i x (omega arith) e

seen_line-words : (words : List (Bor (List ℕ))) (span : Span) → seen_line (texts words) span ≡ record { number = span.number; words = map (λ w. w.now) (take (span.end - span.start) (drop span.start words)) }
seen_line-words words span =
    ap (λ ws. record { number = span.number; words = ws }) (ap (take (span.end - span.start)) (drop-map (λ (w : Bor (List ℕ)). w.now) span.start words) ∙ take-map (λ (w : Bor (List ℕ)). w.now) (span.end - span.start) (drop span.start words))

pub returns : goal.returns
returns c =
    let words = c.self.inside.words.items in
    let span = c.index-span.result.now in
    let view : seen_lines (texts words) c.self.inside.spans.items ≡ c.args.self.now = c.self.view_is in
    ap (λ lines. slice_get lines c.args.place) (sym view)
    ∙ (slice_get-map (seen_line (texts words)) c.self.inside.spans.items c.args.place span (omega (arith, ap length view, length-map c.self.inside.spans.items (seen_line (texts words)))) c.index-span.ensures
    ∙ ap Some (seen_line-words words span ∙ ap (λ (ws : List (Bor (List ℕ))). record { number = span.number; words = map (λ w. w.now) (take (span.end - span.start) (drop span.start ws)) }) (sym c.deref.ensures.value) ∙ sym c.new.ensures))
