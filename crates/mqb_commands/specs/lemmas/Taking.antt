-- What a sink takes, one text after another.
use Rattle.std.proofs.Common.{◌≡◌, ℕ, List, [], ◌++◌, take, drop, Option, Some, None, inl, inr}
use Rattle.std.proofs.Common.{refl, sym, ap, subst, ◌∙◌, append_assoc, append-nil}
use Rattle.std.proofs.lemmas.List.{take-append-drop}
use Rattle.std.specs.Option.{option_map}
use Rattle.std.specs.Prelude.{Result, Ok, Err, OnOk, OnErr}
use Rattle.mqb_outside.specs.Told.{Took}
use Rattle.mqb_commands.specs.declared.status.Status.{Status}
use Rattle.mqb_commands.specs.declared.status.Status.TheVariants as status
use Rattle.mqb_commands.specs.Outputs.{IsPlain, Tells, TookFront, WriteFaultHasCause}

pub took_then : (a b c : Option (List ℕ)) (x y : List ℕ) → Took a b x → Took b c y
    → Took a c (x ++ y)
took_then None b c x y first second =
    second ∙ ap (λ (o : Option (List ℕ)). option_map (λ t. t ++ y) o) first
took_then (Some t) b c x y first second =
    second ∙ ap (λ (o : Option (List ℕ)). option_map (λ t. t ++ y) o) first
    ∙ ap (λ (z : List ℕ). Some z) (append_assoc t x y)

pub took_none : (a : Option (List ℕ)) → Took a a []
took_none None = refl
took_none (Some t) = ap (λ (x : List ℕ). Some x) (sym (append-nil t))

-- Of a text this was taken, and that is left.
pub record TookSoFar (before after : Option (List ℕ)) (text left : List ℕ) : Type 0 where
  pub written : List ℕ
  pub whole : written ++ left ≡ text
  pub took : Took before after written

pub so_far_none : (a : Option (List ℕ)) (text : List ℕ) → TookSoFar a a text text
so_far_none a text = record { written = []; whole = refl; took = took_none a }

pub so_far_then : (a b c : Option (List ℕ)) (text left : List ℕ) (n : ℕ) → TookSoFar a b text left
    → Took b c (take n left) → TookSoFar a c text (drop n left)
so_far_then a b c text left n before more = record {
  written = before.written ++ take n left;
  whole = append_assoc before.written (take n left) (drop n left)
      ∙ ap (λ (x : List ℕ). before.written ++ x) (take-append-drop n left) ∙ before.whole;
  took = took_then a b c before.written (take n left) before.took more;
}

pub so_far_front : (a b : Option (List ℕ)) (text left : List ℕ) → TookSoFar a b text left
    → TookFront a b text
so_far_front a b text left s =
    record { written = s.written; left = left; whole = s.whole; took = s.took }

pub so_far_all : (a b : Option (List ℕ)) (text left : List ℕ) → left ≡ [] → TookSoFar a b text left
    → Took a b text
so_far_all a b text left none s =
    subst (λ (x : List ℕ). Took a b x)
    (sym (append-nil s.written) ∙ ap (λ (x : List ℕ). s.written ++ x) (sym none) ∙ s.whole)
    s.took

-- nothing was taken yet
pub front_none : (a : Option (List ℕ)) (text : List ℕ) → TookFront a a text
front_none a text = record { written = []; left = text; whole = refl; took = took_none a }

-- a text before another was taken, or a front of it
pub front_then : (a b c : Option (List ℕ)) (x y : List ℕ) → Took a b x → TookFront b c y
    → TookFront a c (x ++ y)
front_then a b c x y first second = record {
  written = x ++ second.written;
  left = second.left;
  whole = append_assoc x second.written second.left ∙ ap (λ (z : List ℕ). x ++ z) second.whole;
  took = took_then a b c x second.written first second.took;
}

pub front_more : (a b : Option (List ℕ)) (x y : List ℕ) → TookFront a b x → TookFront a b (x ++ y)
front_more a b x y front = record {
  written = front.written;
  left = front.left ++ y;
  whole = sym (append_assoc front.written front.left y) ∙ ap (λ (z : List ℕ). z ++ y) front.whole;
  took = front.took;
}

pub on_err : {T E P : Type 0} (r : Result T E) → P → OnErr r P
on_err (Ok x) p = tt
on_err (Err e) p = p

pub on_ok_from : {T E P Q : Type 0} (r : Result T E) → (P → Q) → OnOk r P → OnOk r Q
on_ok_from (Ok x) f p = f p
on_ok_from (Err e) f p = tt

pub on_err_from : {T E P Q : Type 0} (r : Result T E) → (P → Q) → OnErr r P → OnErr r Q
on_err_from (Ok x) f p = tt
on_err_from (Err e) f p = f p

-- what holds of the end that is told, and of a write fault, holds of the end of the program
pub told_is : (P : Status → Type 0) (text : List ℕ) (end : Status) (before after : Option (List ℕ))
    (r : Status) → Tells text end before after r
    → P end → P status.WriteFault → P r
told_is P text end before after r (inl told) well cut = subst P (sym told.0) well
told_is P text end before after r (inr told) well cut = subst P (sym told.0) cut

-- an end that is no write fault says nothing of the output
pub plain_cause : (before after : ℕ) (end : Status) → IsPlain end
    → WriteFaultHasCause before after end
plain_cause before after status.WriteFault plain = absurd plain
plain_cause before after status.Done plain = tt
plain_cause before after status.Usage plain = tt
plain_cause before after (status.Script line kind) plain = tt
plain_cause before after status.TooLong plain = tt
plain_cause before after status.TooManyLines plain = tt
plain_cause before after status.ReadFault plain = tt
plain_cause before after status.DiskFault plain = tt
plain_cause before after status.NetFault plain = tt
plain_cause before after (status.BadStore at) plain = tt
plain_cause before after status.NotEmpty plain = tt
plain_cause before after (status.Peer why) plain = tt
plain_cause before after status.NetFull plain = tt
plain_cause before after status.Memory plain = tt
plain_cause before after status.Refused plain = tt
