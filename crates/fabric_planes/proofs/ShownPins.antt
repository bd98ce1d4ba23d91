-- The pins that a net's planes show, as they are listed.
use Rattle.fabric_planes.proofs.Prelude.{◌≡◌, ℕ, ◌<◌, ◌⊎◌, true, List, [], ◌∷◌, ◌++◌, refl, sym, ap, subst, ◌∙◌, inl, inr, arith, Contains, Contains-append_left, Contains-push, Contains-push_cases, NodeKind, Source, Sink, Opin, Ipin, ChanX, ChanY, Node, IsWire, Basis, IsBasis, graph_of, PinAt, is_same_spot, place_of, shows, terminals_of, IsShownPin, AddsPins, ArePinsFor, IsOutputOf, IsPinAt, IsOwnPin}
use Rattle.fabric_planes.proofs.Consecutive.{same_number}

-- ---- lists with more pins

module _ (basis : Basis) (rows : List (List ℕ)) where
  pub one_added : (number : ℕ) (pin : PinAt) (old new : List PinAt) → new ≡ old ++ pin ∷ [] → pin.number ≡ number → IsPinAt basis rows pin → AddsPins basis rows (λ other. other ≡ number) old new
  one_added number pin old new e is at = subst (AddsPins basis rows (λ other. other ≡ number) old) (sym e) (record {
    before = λ p c. Contains-append_left old (pin ∷ []) p c;
    sound = λ p c. elim (Contains-push_cases old pin p c) [
      | inl o ↦ inl o
      | inr same ↦ inr (subst (IsPinAt basis rows) same at, ap (λ (p : PinAt). p.number) (sym same) ∙ is)
    ];
    all = λ k is_k. record { pin = pin; contained = Contains-push old pin; is = is ∙ sym is_k };
  })

  pub both_added : (first second : ℕ → Type 0) (a b c : List PinAt) → AddsPins basis rows first a b → AddsPins basis rows second b c → AddsPins basis rows (λ k. first k ⊎ second k) a c
  both_added first second a b c f s = search arith

  pub same_added : (first second : ℕ → Type 0) (old new : List PinAt) → ((k : ℕ) → first k → second k) → ((k : ℕ) → second k → first k) → AddsPins basis rows first old new → AddsPins basis rows second old new
  same_added first second old new to from are = grind arith

-- ---- the pins that are shown

same_node : (a b : Node) → a.x ≡ b.x → a.kind ≡ b.kind → a.y ≡ b.y → a.n ≡ b.n → a ≡ b
same_node a b x kind y n = grind arith

same_spot : (a b : Node) → a.kind ≡ b.kind → is_same_spot a b ≡ true → a ≡ b
same_spot a b kind h = grind arith

module _ {basis : Basis} (is : IsBasis basis) (rows : List (List ℕ)) (source goal : ℕ) where
  abbrev node : ℕ → Node
  node = (graph_of basis).node

  -- a net's source, its output pins, the sink's input pins, or the sink
  abbrev pub IsNetPin : ℕ → Type 0
  IsNetPin k = (((k ≡ source) ⊎ IsOutputOf basis (node source) k) ⊎ IsOwnPin basis (node goal) k) ⊎ (k ≡ goal)

  is_shown : (kind : NodeKind) → (IsWire kind → ⊥) → (number : ℕ) → number < (graph_of basis).count → (node number).kind ≡ kind → shows basis.strip (terminals_of basis source goal) 0 kind (node number) ≡ true → IsShownPin basis (terminals_of basis source goal) number
  is_shown kind no_wire number within is_kind shown = grind arith

  shown_pin : source < (graph_of basis).count → goal < (graph_of basis).count → (node source).kind ≡ Source → (node goal).kind ≡ Sink → (number : ℕ) → IsNetPin number → IsShownPin basis (terminals_of basis source goal) number
  shown_pin sb gb sk gk number h5 = grind arith

  net_pin : source < (graph_of basis).count → goal < (graph_of basis).count → (node source).kind ≡ Source → (node goal).kind ≡ Sink → (kind : NodeKind) (number : ℕ) → (node number).kind ≡ kind → number < (graph_of basis).count → (IsWire kind → ⊥)
      → shows basis.strip (terminals_of basis source goal) 0 kind (node number) ≡ true → IsNetPin number
  net_pin sb gb sk gk Source number k b n s = inl (inl (inl (same_number is number source b sb (same_spot (node number) (node source) (k ∙ sym sk) s))))
  net_pin sb gb sk gk Sink number k b n s = inr (same_number is number goal b gb (same_spot (node number) (node goal) (k ∙ sym gk) s))
  net_pin sb gb sk gk Opin number k b n s = inl (inl (inr (record { within = b; kind = k; own = s })))
  net_pin sb gb sk gk Ipin number k b n s = inl (inr (record { within = b; kind = k; own = s }))
  net_pin sb gb sk gk ChanX number k b n s = absurd (n tt)
  net_pin sb gb sk gk ChanY number k b n s = absurd (n tt)

  -- what a list has to which all of them are added
  from_sound : (pins : List PinAt) → AddsPins basis rows IsNetPin [] pins → (pin : PinAt) → Contains pins pin → IsPinAt basis rows pin × IsNetPin pin.number
  from_sound pins adds pin c = elim (adds.sound pin c) [
    | inl (k, b, e) ↦ absurd (omega (arith, b))
    | inr found ↦ found
  ]

  pub are_pins : source < (graph_of basis).count → goal < (graph_of basis).count → (node source).kind ≡ Source → (node goal).kind ≡ Sink → (pins : List PinAt) → AddsPins basis rows IsNetPin [] pins → ArePinsFor basis rows source goal pins
  are_pins sb gb sk gk pins adds =
      let shown : (pin : PinAt) → Contains pins pin → IsShownPin basis (terminals_of basis source goal) pin.number = λ pin c. shown_pin sb gb sk gk pin.number (from_sound pins adds pin c).1 in
      record {
        are_pins = record {
          shown = shown;
          place = λ pin c. sym (from_sound pins adds pin c).0.place;
          all = λ number s none.
              let h = adds.all number (net_pin sb gb sk gk (node number).kind number refl s.within s.no_wire s.shown) in
              let at = (from_sound pins adds h.pin h.contained).0 in
              none h.contained.0 h.pin h.contained.1 (ap (λ (p : PinAt). p.place) h.contained.2 ∙ (at.place ∙ ap (λ (k : ℕ). place_of basis (node k)) h.is));
        };
        have_ends = λ cost starts search pin c. (from_sound pins adds pin c).0.ends cost starts goal (terminals_of basis source goal) search (shown pin c);
      }
