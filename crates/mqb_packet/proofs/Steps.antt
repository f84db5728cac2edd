-- A reading and the bytes that it read, both ways.
use Rattle.std.proofs.Common.{◌≡◌, ◌≤◌, ◌<◌, ℕ, ◌+◌, Bool, true, false, cond, List, ◌++◌, length, take, drop, Result, Ok, Err, refl, sym, ap, subst, ◌∙◌, arith, append_assoc, length-append}
use Rattle.std.proofs.lemmas.List.{take-append-drop, drop-drop}
use Rattle.mqb_fields.specs.declared.faults.HeadFault.{HeadFault}
use Rattle.mqb_fields.specs.Reading.{◌>>=◌, Reading, rest_of, moved}
use Rattle.mqb_heads.specs.mqb_names.Grammar.{◌then◌}
use Rattle.mqb_heads.specs.mqb_names.lemmas.Again.{rest_again}

abbrev pub done : {X E : Type 0} → X → Result X E
done x = Ok x

pub ok_is : {X E : Type 0} (x y : X) → done {X = X} {E = E} x ≡ done y → x ≡ y
ok_is x y e = cc

-- Bytes of a form were read from one place to another.
pub record Took (Form : List ℕ → Type 0) (r end : Reading) : Type 0 where
  pub part : List ℕ
  pub split : rest_of r ≡ part ++ rest_of end
  pub form : Form part
  pub moves : end ≡ moved (length part) r

pub moved_twice : (m n k : ℕ) (r : Reading) → k ≡ m + n → moved n (moved m r) ≡ moved k r
moved_twice m n k r e = ap (λ (at : ℕ). record r { at = at }) (omega (arith, e))

infixr 10 ◌&◌
abbrev pub ◌&◌ : {First Second : List ℕ → Type 0} {a b c : Reading} → Took First a b → Took Second b c → Took (First then Second) a c
◌&◌ {First = First} {Second = Second} {a = a} {b = b} {c = c} p q = record {
  part = p.part ++ q.part;
  split = p.split ∙ ap (λ (t : List ℕ). p.part ++ t) q.split ∙ sym (append_assoc p.part q.part (rest_of c));
  form = (p.part, q.part, refl, p.form, q.form);
  moves = q.moves ∙ ap (moved (length q.part)) p.moves ∙ moved_twice (length p.part) (length q.part) (length (p.part ++ q.part)) a (length-append p.part q.part);
}

-- the same bytes, in another form
pub in_form : {First Second : List ℕ → Type 0} {a b : Reading} → ((bytes : List ℕ) → First bytes → Second bytes) → Took First a b → Took Second a b
in_form change p = record { part = p.part; split = p.split; form = change p.part p.form; moves = p.moves }

-- so many bytes that are there
pub taken : (count : ℕ) (r : Reading) → length (take count (rest_of r)) ≡ count → Took (λ bytes. (bytes ≡ take count (rest_of r)) × (length bytes ≡ count)) r (moved count r)
taken count r len = record {
  part = take count (rest_of r);
  split = sym (take-append-drop count (rest_of r)) ∙ ap (λ (t : List ℕ). take count (rest_of r) ++ t) (drop-drop count r.at r.bytes);
  form = (refl, len);
  moves = ap (λ (n : ℕ). moved n r) (sym len);
}

-- what stands at a place in two parts, and what stands behind the first
pub record Opened (r : Reading) (bytes first second rest : List ℕ) : Type 0 where
  pub here : rest_of r ≡ first ++ (second ++ rest)
  pub behind : rest_of (moved (length first) r) ≡ second ++ rest
  pub ends : moved (length second) (moved (length first) r) ≡ moved (length bytes) r

pub opened : (r : Reading) (bytes rest first second : List ℕ) → rest_of r ≡ bytes ++ rest → first ++ second ≡ bytes → Opened r bytes first second rest
opened r bytes rest first second e whole =
    let here : rest_of r ≡ first ++ (second ++ rest) = e ∙ ap (λ (t : List ℕ). t ++ rest) (sym whole) ∙ append_assoc first second rest in
    record {
      here = here;
      behind = rest_again r first (second ++ rest) (length first) refl here;
      ends = moved_twice (length first) (length second) (length bytes) r (ap length (sym whole) ∙ length-append first second);
    }

-- Where bytes of the form stand, the reading gives this value and goes on behind them.
abbrev pub Gives : {X : Type 0} → (Reading → Result (X × Reading) HeadFault) → (List ℕ → Type 0) → X → Type 0
Gives {X = X} read Form x = (r : Reading) (bytes rest : List ℕ) → rest_of r ≡ bytes ++ rest → Form bytes → read r ≡ Ok (x, moved (length bytes) r)

-- Where bytes of the form stand, the reading goes on behind them.
abbrev pub Passes : (Reading → Result Reading HeadFault) → (List ℕ → Type 0) → Type 0
Passes read Form = (r : Reading) (bytes rest : List ℕ) → rest_of r ≡ bytes ++ rest → Form bytes → read r ≡ Ok (moved (length bytes) r)

pub gives_then : {X Y : Type 0} (read : Reading → Result (X × Reading) HeadFault) (next : X × Reading → Result (Y × Reading) HeadFault) (First Second : List ℕ → Type 0) (x : X) (y : Y)
    → Gives read First x → Gives (λ r. next (x, r)) Second y → Gives (λ r. read r >>= next) (First then Second) y
gives_then read next First Second x y one two r bytes rest e (first, second, whole, is_first, is_second) =
    let o = opened r bytes rest first second e whole in
    ap (λ t. t >>= next) (one r first (second ++ rest) o.here is_first)
    ∙ two (moved (length first) r) second rest o.behind is_second
    ∙ ap (λ (end : Reading). Ok (y, end)) o.ends

pub passes_then : {Y : Type 0} (read : Reading → Result Reading HeadFault) (next : Reading → Result (Y × Reading) HeadFault) (First Second : List ℕ → Type 0) (y : Y)
    → Passes read First → Gives next Second y → Gives (λ r. read r >>= next) (First then Second) y
passes_then read next First Second y one two r bytes rest e (first, second, whole, is_first, is_second) =
    let o = opened r bytes rest first second e whole in
    ap (λ t. t >>= next) (one r first (second ++ rest) o.here is_first)
    ∙ two (moved (length first) r) second rest o.behind is_second
    ∙ ap (λ (end : Reading). Ok (y, end)) o.ends

pub gives_last : {X Y : Type 0} (read : Reading → Result (X × Reading) HeadFault) (made : X → Y) (Form : List ℕ → Type 0) (x : X)
    → Gives read Form x → Gives (λ r. read r >>= (λ a. Ok (made a.0, a.1))) Form (made x)
gives_last read made Form x one r bytes rest e form = ap (λ t. t >>= (λ a. Ok (made a.0, a.1))) (one r bytes rest e form)

pub passes_last : {Y : Type 0} (read : Reading → Result Reading HeadFault) (y : Y) (Form : List ℕ → Type 0)
    → Passes read Form → Gives (λ r. read r >>= (λ end. Ok (y, end))) Form y
passes_last read y Form one r bytes rest e form = ap (λ t. t >>= (λ end. Ok (y, end))) (one r bytes rest e form)
