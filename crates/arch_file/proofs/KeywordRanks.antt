-- Keywords with the same spelling have the same rank.
use Rattle.arch_file.proofs.Prelude.{◌≡◌, ◌∙◌, ℕ, Bool, true, false, eqb, [], ◌∷◌, Some, get_or, refl, sym, ap, arith, eqb-true, nat_tests, bytes_eq-Decides, ArchKeyword, IoRat, ChanWidthIo, ChanWidthX, ChanWidthY, SubblocksPerClb, SubblockLutSize, FcType, FcOutput, FcInput, FcPad, SwitchBlockType, Segment, Inpin, Outpin, rank_of, keyword_of, same_keyword, text_of}

-- the keyword of a rank
ranked : ℕ → ArchKeyword
ranked rank = get_or (IoRat ∷ ChanWidthIo ∷ ChanWidthX ∷ ChanWidthY ∷ SubblocksPerClb ∷ SubblockLutSize ∷ FcType ∷ FcOutput ∷ FcInput ∷ FcPad ∷ SwitchBlockType ∷ Segment ∷ Inpin ∷ Outpin ∷ []) rank IoRat

ranked_is : (keyword : ArchKeyword) → ranked (rank_of keyword) ≡ keyword
unfolding ranked
ranked_is IoRat = refl
ranked_is ChanWidthIo = refl
ranked_is ChanWidthX = refl
ranked_is ChanWidthY = refl
ranked_is SubblocksPerClb = refl
ranked_is SubblockLutSize = refl
ranked_is FcType = refl
ranked_is FcOutput = refl
ranked_is FcInput = refl
ranked_is FcPad = refl
ranked_is SwitchBlockType = refl
ranked_is Segment = refl
ranked_is Inpin = refl
ranked_is Outpin = refl

-- a keyword is found by its spelling
spelled_is : (keyword : ArchKeyword) → keyword_of (text_of keyword) ≡ Some keyword
unfolding keyword_of
spelled_is IoRat = refl
spelled_is ChanWidthIo = refl
spelled_is ChanWidthX = refl
spelled_is ChanWidthY = refl
spelled_is SubblocksPerClb = refl
spelled_is SubblockLutSize = refl
spelled_is FcType = refl
spelled_is FcOutput = refl
spelled_is FcInput = refl
spelled_is FcPad = refl
spelled_is SwitchBlockType = refl
spelled_is Segment = refl
spelled_is Inpin = refl
spelled_is Outpin = refl

eqb_self : (n : ℕ) → eqb n n ≡ true
eqb_self n = grind (arith, nat_tests)

same_text : (first second : ArchKeyword) → same_keyword first second ≡ true → first ≡ second
same_text first second same =
    let texts : text_of first ≡ text_of second = (bytes_eq-Decides (text_of first) (text_of second)).0 same in
    let some : Some first ≡ Some second = sym (spelled_is first) ∙ ap keyword_of texts ∙ spelled_is second in
    cc

same_rank : (first second : ArchKeyword) → eqb (rank_of first) (rank_of second) ≡ true → first ≡ second
same_rank first second same = sym (ranked_is first) ∙ ap ranked (eqb-true (rank_of first) (rank_of second) same) ∙ ranked_is second

same_self : (keyword : ArchKeyword) → same_keyword keyword keyword ≡ true
same_self keyword = (bytes_eq-Decides (text_of keyword) (text_of keyword)).1 refl

pub alike_by_rank : (first second : ArchKeyword) → same_keyword first second ≡ eqb (rank_of first) (rank_of second)
alike_by_rank first second = by (same_keyword first second) (eqb (rank_of first) (rank_of second)) refl refl
  where
    by : (a b : Bool) → same_keyword first second ≡ a → eqb (rank_of first) (rank_of second) ≡ b → a ≡ b
    by true true text rank = refl
    by false false text rank = refl
    by true false text rank =
        let one : first ≡ second = same_text first second text in
        sym (eqb_self (rank_of second)) ∙ ap (λ k. eqb (rank_of k) (rank_of second)) (sym one) ∙ rank
    by false true text rank =
        let one : first ≡ second = same_rank first second rank in
        sym text ∙ ap (λ k. same_keyword k second) one ∙ same_self second
