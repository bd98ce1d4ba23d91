-- Nodes that are read line by line.
use Rattle.strip_files.proofs.Prelude.{ℕ, ◌≡◌, ◌∙◌, Bool, true, false, List, [], ◌∷◌, ◌++◌, ap, sym, subst, Result, Ok, Err, OnOk, length, refl, arith, NodeKind, RouteNode, IsReadOn, IsTailOf, AddsNext, IsLineOfNode, is_node_line, kind_start}

-- the line of a node, by its beginning and its end
pub told_line : (line tail : List ℕ) (before after : List RouteNode) (kind : NodeKind) (read : RouteNode) → is_node_line line ≡ true → line ≡ kind_start kind ++ tail
    → after ≡ before ++ read ∷ [] → read.node.kind ≡ kind → IsTailOf tail read.node → IsReadOn line before after
told_line line tail before after kind read begins text same is told =
    subst (λ (b : Bool). AddsNext b (IsLineOfNode (length before) line) before after) (sym begins)
    (read, same, record { tail = tail; text = text ∙ ap (λ (k : NodeKind). kind_start k ++ tail) (sym is); told = told })

-- another line
pub other_line : (line : List ℕ) (before after : List RouteNode) → is_node_line line ≡ false → after ≡ before → IsReadOn line before after
other_line line before after none same = subst (λ (b : Bool). AddsNext b (IsLineOfNode (length before) line) before after) (sym none) same

-- a success implies any weaker fact
pub on_ok : {A E : Type 0} (r : Result A E) (P Q : Type 0) → (P → Q) → OnOk r P → OnOk r Q
on_ok (Ok a) P Q more h = more h
on_ok (Err e) P Q more h = h

pub always_ok : {A E : Type 0} (r : Result A E) (P : Type 0) → P → OnOk r P
always_ok (Ok a) P h = h
always_ok (Err e) P h = tt

pub nothing : (text : List ℕ) → length text ≡ 0 → text ≡ []
nothing [] h = refl
nothing (byte ∷ rest) h = absurd (omega arith)
