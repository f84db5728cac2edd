-- Where decisions rise, the last one of a sequence is its greatest, and nothing was decided of a later sequence than the newest one's.
use Rattle.std.proofs.Common.{◌≡◌, ◌<◌, ◌≤◌, ◌⊎◌, inl, inr, Bool, true, false, cond, List, [], ◌∷◌, refl, sym, ap, subst, ◌∙◌, arith}
use Rattle.std.proofs.lemmas.Bool.{true≢false}
use Rattle.std.proofs.lemmas.Bool.Decides.{nat_tests}
use Rattle.mqb_base.specs.declared.ids.SequenceId.{SequenceId}
use Rattle.mqb_base.specs.Sequences.{same_sequence, earlier}
use Rattle.mqb_exactly_once.specs.World.{Position, Decision}
use Rattle.mqb_exactly_once.specs.Words.{In, precedes, is_decided, last}
use Rattle.mqb_exactly_once.specs.ExactlyOnce.{Rises}
use Rattle.mqb_exactly_once.proofs.Positions.{same_sequence_is, same_the_other_way, same_sequence_refl, earlier_trans, earlier_is_not_same, precedes_tells}
use Rattle.mqb_exactly_once.proofs.Members.{In_from_decided}

abbrev pub DecisionsRise : List Decision → Type 0
DecisionsRise ds = Rises (λ (d : Decision). d.position) ds

not_before_itself : (p q : Position) → p ≡ q → precedes p q ≡ false
not_before_itself p q is = subst (λ (r : Position). precedes p r ≡ false) is (not_before p)
  where
    not_before : (p : Position) → precedes p p ≡ false
    not_before p = grind (arith, nat_tests)

-- of one sequence, the newer decision has the greater number
newer_above : (d e : Decision) → precedes e.position d.position ≡ true → same_sequence d.position.sequence e.position.sequence ≡ true
    → e.position.number < d.position.number
newer_above d e before same = elim (precedes_tells e.position d.position before) [
  | inl is_earlier ↦
      let one_way = same_the_other_way d.position.sequence e.position.sequence same in
      absurd (true≢false (sym one_way ∙ earlier_is_not_same e.position.sequence d.position.sequence is_earlier))
  | inr h ↦ h.1
]

pub last_greatest : (ds : List Decision) (d : Decision) → DecisionsRise ds → In d ds → d.position.number ≤ last ds d.position.sequence
last_greatest [] d rise inside = absurd inside
last_greatest (e ∷ ds) d rise (inl is) = subst (λ (x : Decision). x.position.number ≤ last (e ∷ ds) x.position.sequence) is at_head
  where
    at_head : e.position.number ≤ cond (same_sequence e.position.sequence e.position.sequence) e.position.number (last ds e.position.sequence)
    at_head = rw (same_sequence_refl e.position.sequence) (omega arith)
last_greatest (e ∷ ds) d rise (inr behind) =
    at (same_sequence e.position.sequence d.position.sequence) refl (last_greatest ds d rise.1 behind)
  where
    at : (b : Bool) → same_sequence e.position.sequence d.position.sequence ≡ b → d.position.number ≤ last ds d.position.sequence
        → d.position.number ≤ cond b e.position.number (last ds d.position.sequence)
    at true same lower = let above : d.position.number < e.position.number = newer_above e d (rise.0 d behind) same in omega arith
    at false other lower = lower

pub decided_within : (ds : List Decision) (p : Position) → DecisionsRise ds → is_decided ds p ≡ true → p.number ≤ last ds p.sequence
decided_within ds p rise h =
    let found = In_from_decided ds p h in
    subst (λ (q : Position). q.number ≤ last ds q.sequence) found.2 (last_greatest ds found.0 rise found.1)

-- the last one is 0 or decided
pub last_was_decided : (ds : List Decision) (s : SequenceId)
    → (last ds s ≡ 0) ⊎ ((d : Decision) × In d ds × (d.position ≡ record { sequence = s; number = last ds s }))
last_was_decided [] s = inl refl
last_was_decided (d ∷ ds) s = at (same_sequence d.position.sequence s) refl (last_was_decided ds s)
  where
    at : (b : Bool) → same_sequence d.position.sequence s ≡ b
        → (last ds s ≡ 0) ⊎ ((e : Decision) × In e ds × (e.position ≡ record { sequence = s; number = last ds s }))
        → (cond b d.position.number (last ds s) ≡ 0)
        ⊎ ((e : Decision) × In e (d ∷ ds) × (e.position ≡ record { sequence = s; number = cond b d.position.number (last ds s) }))
    at true same rest = inr (d, inl refl, ap (λ t. record { sequence = t; number = d.position.number }) (same_sequence_is d.position.sequence s same))
    at false other (inl none) = inl none
    at false other (inr found) = inr (found.0, inr found.1, found.2)

-- nothing of a later sequence than a decision's was decided before it
none_later : (ds : List Decision) (p : Position) (s : SequenceId) → ((e : Decision) → In e ds → precedes e.position p ≡ true)
    → earlier p.sequence s ≡ true → last ds s ≡ 0
none_later [] p s below later = refl
none_later (d ∷ ds) p s below later = at (same_sequence d.position.sequence s) refl (none_later ds p s (λ e inside. below e (inr inside)) later)
  where
    before_later : earlier d.position.sequence s ≡ true
    before_later = elim (precedes_tells d.position p (below d (inl refl))) [
      | inl h ↦ earlier_trans d.position.sequence p.sequence s h later
      | inr h ↦ subst (λ t. earlier t s ≡ true) (sym h.0) later
    ]

    at : (b : Bool) → same_sequence d.position.sequence s ≡ b → last ds s ≡ 0 → cond b d.position.number (last ds s) ≡ 0
    at true same none = absurd (true≢false (sym same ∙ earlier_is_not_same d.position.sequence s before_later))
    at false other none = none

pub none_of_later : (d : Decision) (ds : List Decision) (s : SequenceId) → DecisionsRise (d ∷ ds) → earlier d.position.sequence s ≡ true
    → last (d ∷ ds) s ≡ 0
none_of_later d ds s rise later = at (same_sequence d.position.sequence s) (earlier_is_not_same d.position.sequence s later)
  where
    at : (b : Bool) → b ≡ false → cond b d.position.number (last ds s) ≡ 0
    at true is = absurd (true≢false is)
    at false is = none_later ds d.position s rise.0 later

-- Where positions rise, each is of one member.
pub one_of_each : {A : Type 0} (position : A → Position) (xs : List A) (x y : A) → Rises position xs → In x xs → In y xs
    → position x ≡ position y → x ≡ y
one_of_each position [] x y rise inside also same = absurd inside
one_of_each position (z ∷ xs) x y rise (inl is) (inl also) same = sym is ∙ also
one_of_each position (z ∷ xs) x y rise (inl is) (inr behind) same =
    absurd (true≢false (sym (rise.0 y behind) ∙ not_before_itself (position y) (position z) (sym same ∙ ap position (sym is))))
one_of_each position (z ∷ xs) x y rise (inr behind) (inl is) same =
    absurd (true≢false (sym (rise.0 x behind) ∙ not_before_itself (position x) (position z) (same ∙ ap position (sym is))))
one_of_each position (z ∷ xs) x y rise (inr inside) (inr also) same = one_of_each position xs x y rise.1 inside also same
