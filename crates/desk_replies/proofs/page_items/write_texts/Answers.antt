use Rattle.desk_replies.proofs.Prelude.{◌≡◌, ℕ, List, [], Some, ap, codes, sym, same_Some, all_same, part_first, part_same, part_then, writes_part, writes_same, writes_then, element_text}
use Rattle.desk_replies.proofs.page_items.write_texts.Goals as goal

-- the element of a sink's bytes
same : (kind bytes text : List ℕ) → Some bytes ≡ Some text → element_text kind [] text ≡ element_text kind [] bytes
same kind bytes text e = ap (element_text kind []) (sym (same_Some bytes text e))

pub returns-in_err-write_text : goal.returns-in_err-write_text
returns-in_err-write_text g c =
    writes_part _ c.from_residual.ensures.0
    (part_first _ (part_same c.in_err-write_text.ensures (same (codes "lines") _ _ c.as_bytes.ensures)))

pub returns-in_err-write_text-2 : goal.returns-in_err-write_text-2
returns-in_err-write_text-2 g c =
    writes_part _ c.from_residual-in_err-write_text-2.ensures.0
    (part_then (all_same c.in_ok-write_text.ensures (same (codes "lines") _ _ c.as_bytes.ensures))
    (part_first _ (part_same c.in_err-write_text-2.ensures (same (codes "refused") _ _ c.as_bytes-2.ensures))))

pub returns-in_err-write_text-3 : goal.returns-in_err-write_text-3
returns-in_err-write_text-3 g c =
    writes_part _ c.from_residual-in_err-write_text-3.ensures.0
    (part_then (all_same c.in_ok-write_text.ensures (same (codes "lines") _ _ c.as_bytes.ensures))
    (part_then (all_same c.in_ok-write_text-2.ensures (same (codes "refused") _ _ c.as_bytes-2.ensures))
    (part_first _ (part_same c.in_err-write_text-3.ensures (same (codes "states") _ _ c.as_bytes-3.ensures)))))

pub returns : goal.returns
returns g c =
    let r = c.write_text-4.result in
    writes_then (all_same c.in_ok-write_text.ensures (same (codes "lines") _ _ c.as_bytes.ensures)) _ _ r
    (writes_then (all_same c.in_ok-write_text-2.ensures (same (codes "refused") _ _ c.as_bytes-2.ensures)) _ _ r
    (writes_then (all_same c.in_ok-write_text-3.ensures (same (codes "states") _ _ c.as_bytes-3.ensures)) _ _ r
    (writes_same g.W.Sink.contents g.W.Sink.has_failed _ _ _ _ r (same (codes "device") _ _ c.as_bytes-4.ensures) c.write_text-4.ensures)))
