use Rattle.blif.proofs.Prelude.{◌≡◌, ℕ, ◌+◌, ◌<◌, List, [], ◌∷◌, ◌++◌, length, get_or, take, true, refl, ap, sym, ◌∙◌, arith, encode_utf8, encode_utf8_all, put_two, append-nil, take_more, encodes-append}
use Rattle.blif.proofs.fault.write_net.Goals as goal

-- the characters of one more byte
encoded_more : (net : List ℕ) (i char : ℕ) → i < length net → char ≡ get_or net i 0 → encode_utf8_all (take i net) ++ encode_utf8 char ≡ encode_utf8_all (take (i + 1) net)
encoded_more net i char within is =
    ap (λ c. encode_utf8_all (take i net) ++ encode_utf8 c) is
    ∙ ap (λ last. encode_utf8_all (take i net) ++ last) (sym (append-nil (encode_utf8 (get_or net i 0))))
    ∙ sym (encodes-append (take i net) (get_or net i 0 ∷ []))
    ∙ ap encode_utf8_all (sym (take_more net i 0 within))

pub loop-byte-preserved : goal.loop-byte-preserved
loop-byte-preserved g c =
    λ plain.
    let so_far = c.loop-byte.invariant plain in
    put_two _ _ _ _ _ _ _ so_far (c.in_ok-write_char-2.ensures.writes so_far.plain (refl {a = true})) (ap (λ text. 32 ∷ text) (encoded_more c.args.net.now c.loop-byte.byte-index c.from.result (omega arith) c.from.ensures))
