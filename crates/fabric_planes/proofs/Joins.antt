-- Which kinds of nodes edges lead to, and from which.
use Rattle.fabric_planes.proofs.Prelude.{◌≡◌, ◌⊎◌, true, arith, Arch, Strip, NodeKind, Source, Sink, Opin, Ipin, ChanX, ChanY, Node, IsWire, joins, is_together}

-- what an edge between nodes of two kinds says of the second node, if ways lead on from it
abbrev pub IsReached : Strip → NodeKind → NodeKind → Node → Node → Type 0
IsReached strip ka Source a b = ⊥
IsReached strip ka Sink a b = (ka ≡ Ipin) × (is_together strip a b ≡ true)
IsReached strip ka Opin a b = (ka ≡ Source) × (is_together strip a b ≡ true)
IsReached strip ka Ipin a b = IsWire ka
IsReached strip ka ChanX a b = (ka ≡ Opin) ⊎ (IsWire ka × (a.n ≡ b.n))
IsReached strip ka ChanY a b = (ka ≡ Opin) ⊎ (IsWire ka × (a.n ≡ b.n))

pub reached : (arch : Arch) (strip : Strip) (ka kb : NodeKind) (a b : Node) → joins arch strip ka kb a b ≡ true → IsReached strip ka kb a b
reached arch strip ka kb a b h = grind arith
