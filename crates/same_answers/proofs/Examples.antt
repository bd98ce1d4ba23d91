-- Examples that are computed.
use Rattle.same_answers.proofs.Prelude.{◌≡◌, ℕ, List, [], ◌∷◌, false, inl, inr, refl, bytes_eq, Pack, Command, Wait, Operator, Session, Admit, Evict, Move, AreLeftAlone, from_session, text_of}
use Rattle.script_text.specs.declared.operator_line.OperatorLine.TheVariants.{List as ListAll}

abbrev a : List ℕ
a = 97 ∷ []

abbrev b : List ℕ
b = 98 ∷ []

-- the first session's line may be another name's
first_line : from_session (Operator (Admit a 3) ∷ Operator ListAll ∷ Session b Wait ∷ Operator (Evict b) ∷ Session a Wait ∷ []) ≡ Session b Wait ∷ Operator (Evict b) ∷ Session a Wait ∷ []
first_line = refl

-- a name may be evicted after its last line, and others at any time; its strip may move
evicted_later : AreLeftAlone a (Session a (Command Pack) ∷ Operator (Evict b) ∷ Operator (Move a 4) ∷ Session a Wait ∷ Operator (Evict a) ∷ [])
evicted_later = inr (tt, inr (refl, inr (tt, inr (tt, inl refl))))

evicted_before : AreLeftAlone a (Operator (Evict a) ∷ Session a Wait ∷ []) → ⊥
evicted_before (inl none) = cc
evicted_before (inr left) = let never : bytes_eq a a ≡ false = left.0 in cc

-- a name's section is the one under its name
second_section : text_of a (record { name = b; text = 1 ∷ [] } ∷ record { name = a; text = 2 ∷ 3 ∷ [] } ∷ []) ≡ 2 ∷ 3 ∷ []
second_section = refl
