-- How a scan goes on.
use Rattle.std.proofs.Common.{◌≡◌, Bool, ℕ, ◌+◌, List, [], ◌∷◌, ◌++◌, length, take, drop, true, false, Option, Some, None, IfSome, refl, sym, ◌∙◌, ap, subst, arith, length-append}
use Rattle.std.proofs.lemmas.List.{take_at}
use Rattle.std.proofs.lemmas.List.Elements.{All-push, All-nil}
use Rattle.mqb_base.specs.declared.ids.Guid.{Guid}
use Rattle.mqb_outside.specs.Images.{Each}
use Rattle.mqb_outside.specs.Disk.{View, OnlyReads}
use Rattle.mqb_layout.specs.declared.layout.Layout.{Layout}
use Rattle.mqb_journal.specs.Store.{Base, bytes_in, HasFront, IsSmall, chain}
use Rattle.mqb_layout.specs.Gates.{HasGate}
use Rattle.mqb_journal.specs.Scan.{HasNext}
use Rattle.mqb_journal.specs.States.{ScanState, begun, ended}
use Rattle.mqb_journal.specs.Journals.{Lent, IsFrontOf}
use Rattle.mqb_journal.proofs.Records.{length-chain-more, chained_more}

held_in : (o : Option (List ℕ)) (base : Base) → bytes_in base ≡ o → IfSome o (λ bytes. bytes_in base ≡ Some bytes)
held_in None base is = tt
held_in (Some bytes) base is = is

pub lent_none : (d e : View) (guid : Guid) (later : Option Layout) (len first count : ℕ) (held : Option (List ℕ)) (is_open : Bool) (f : IsFrontOf d.reads guid.0 later first count held) → OnlyReads d e
    → Each d.reads (λ c. len ≡ length c) → Each d.reads (HasGate first is_open) → Lent e (begun guid later len first count held is_open []) f.base []
lent_none d e guid later len first count held is_open f reads long gate = record {
  first = first;
  behind = f.behind;
  front = λ c told. f.front c (reads.unchanged.reads.none_new c told);
  laid = λ c told. f.laid c (reads.unchanged.reads.none_new c told);
  begins = λ c told. refl;
  long = λ c told. long c (reads.unchanged.reads.none_new c told);
  small = All-nil IsSmall;
  place = omega arith;
  count = omega (arith, f.counted);
  held = held_in held f.base f.held_is;
  gate = λ c told. gate c (reads.unchanged.reads.none_new c told);
  shut = λ ended. absurd (let no : true ≡ false = sym ended in cc);
}

pub lent_more : (d e : View) (s t : ScanState) (base : Base) (records : List (List ℕ)) (entry : List ℕ) → Lent d s base records → OnlyReads d e → Each d.reads (HasNext s.gate entry) → IsSmall entry
    → Each d.reads (HasGate (s.gate + 5 + length entry) t.is_open) → t.guid ≡ s.guid → t.later ≡ s.later → t.len ≡ s.len → t.gate ≡ s.gate + 5 + length entry → t.count ≡ s.count + 1 → t.base ≡ s.base → t.ended ≡ false → Lent e t base (records ++ entry ∷ [])
lent_more d e s t base records entry lent reads next fits behind guid later len gate count held going = record {
  first = lent.first;
  behind = λ none. lent.behind (sym later ∙ none);
  front = λ c told. subst (λ (g : Guid). HasFront g.0 base lent.first c) (sym guid) (lent.front c (reads.unchanged.reads.none_new c told));
  laid = λ c told. lent.laid c (reads.unchanged.reads.none_new c told) ∙ sym later;
  begins = λ c told.
      let was = reads.unchanged.reads.none_new c told in
      chained_more records entry (drop lent.first c) (drop s.gate c) (drop (s.gate + 5 + length entry) c) (lent.begins c was) (next c was).is
      ∙ ap (λ (k : ℕ). chain (records ++ entry ∷ []) ++ drop k c) (sym gate);
  long = λ c told. len ∙ lent.long c (reads.unchanged.reads.none_new c told);
  small = All-push IsSmall records entry lent.small fits;
  place = omega (arith, gate, lent.place, length-chain-more records entry);
  count = omega (arith, count, lent.count, length-append records (entry ∷ []));
  held = subst (λ (o : Option (List ℕ)). IfSome o (λ bytes. bytes_in base ≡ Some bytes)) (sym held) lent.held;
  gate = λ c told. subst (λ (k : ℕ). HasGate k t.is_open c) (sym gate) (behind c (reads.unchanged.reads.none_new c told));
  shut = λ ended. absurd (let no : true ≡ false = sym ended ∙ going in cc);
}

-- what stands at the front of a buffer whose contents were written as a whole
pub front_of_written : (n len : ℕ) (new old : List ℕ) → length new ≡ len → take n (take len (new ++ drop (length new) old)) ≡ take n new
front_of_written n len new old size = ap (λ (l : List ℕ). take n l) (take_at new (drop (length new) old) len size)
