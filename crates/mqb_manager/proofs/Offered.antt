-- A record of marks changes nothing but how far outgoing rows were offered.
use Rattle.std.proofs.Common.{refl, sym, subst, ◌∙◌, arith}
use Rattle.std.proofs.lemmas.List.{length-set}
use Rattle.std.specs.Option.{option_map_or}
use Rattle.std.specs.Prelude.{[], ◌∷◌, ◌≡◌, Bool, IfSome, List, None, Option, Some, false, fold, length, position, slice_get, slice_set, ℕ}
use Rattle.mqb_entries.specs.declared.members.Mark.{Mark}
use Rattle.mqb_orders.specs.Rows.{Row}
use Rattle.mqb_session.specs.State as one_end
use Rattle.mqb_model.specs.Lists.{grown, with_changed, with_first_changed}
use Rattle.mqb_model.specs.managers.Manager.{Condition, Manager, Up, doubt_of, rest_for}
use Rattle.mqb_model.specs.managers.Valid.{IsExpressValid, IsLinkedWell, IsSessionOf, IsValidManager, IsWritable}
use Rattle.mqb_model.specs.records.Offered.{mark_raised, with_offered}
use Rattle.mqb_model.specs.state.Rows.{has_ordinal}
use Rattle.mqb_model.specs.state.State.{State}
use Rattle.mqb_model.specs.state.Valid.{IsValidState}
use Rattle.mqb_choosing.proofs.Rests.{grown_length}

-- The same but for the outgoing rows, of which there are as many.
pub record DiffersInRows (s t : State) : Type 0 where
  pub state : t ≡ record s { outs = t.outs }
  pub count : length t.outs ≡ length s.outs

-- As many rows.

changed_length : {X : Type 0} (change : X → X) (xs : List X) (k : ℕ) → length (with_changed change xs k) ≡ length xs
changed_length {X} change xs k = at (slice_get xs k)
  where
    at : (o : Option X) → length (option_map_or (λ x. slice_set xs k (change x)) o xs) ≡ length xs
    at None = refl
    at (Some x) = length-set xs k (change x)

first_changed_length : {X : Type 0} (change : X → X) (passes : X → Bool) (xs : List X) → length (with_first_changed change passes xs) ≡ length xs
first_changed_length {X} change passes xs = at (position passes xs)
  where
    at : (o : Option ℕ) → length (option_map_or (with_changed change xs) o xs) ≡ length xs
    at None = refl
    at (Some k) = changed_length change xs k

pub rows_raised : (s : State) (marks : List Mark) → DiffersInRows s (fold mark_raised s marks)
rows_raised s [] = record { state = refl; count = refl }
rows_raised s (mark ∷ marks) = let rest = rows_raised (mark_raised s mark) marks in record {
  state = rest.state;
  count = rest.count ∙ first_changed_length (with_offered mark.number) (has_ordinal mark.ordinal) s.outs;
}

-- Such a manager is valid, where its state is.
module _ (m : Manager) (os : List Row) where
  abbrev t : State
  t = record m.state { outs = os }

  express : IsExpressValid m.state → IsExpressValid t
  express e = record {
    placed = e.placed;
    waiting = e.waiting;
    placed_express = e.placed_express;
    waiting_express = e.waiting_express;
    next_express = e.next_express;
  }

  session_of : (session : one_end.State) → IsSessionOf m.state session → IsSessionOf t session
  session_of session i = record { kept = i.kept; own = i.own; peer = i.peer; first = i.first; marks = i.marks }

  linked : (session : Option one_end.State) → IsLinkedWell m.state Up session → IsLinkedWell t Up session
  linked None l = l
  linked (Some session) l = session_of session l

  whole : {X : Type 0} (blank : X) (n : ℕ) (xs : List X) → length xs ≡ n → length (grown blank n xs) ≡ n
  whole blank n xs e = let len = grown_length blank n xs in omega (arith, e, len)

  pub rows_valid : IsValidManager m → m.condition ≡ Up → length os ≡ length m.state.outs → IsValidState t
      → IsValidManager (record m { state = t; rest = rest_for t m.rest })
  rows_valid valid up same state = record {
    state = state;
    express = express valid.express;
    marks = valid.marks;
    session = subst (λ (c : Condition). IsLinkedWell t c m.rest.session) (sym up)
        (linked m.rest.session (subst (λ (c : Condition). IsLinkedWell m.state c m.rest.session) up valid.session));
    cursors = whole 0 (length os) m.rest.cursors (valid.cursors ∙ sym same);
    owes = whole false (length m.state.ins) m.rest.owes valid.owes;
    doubt = subst (λ (c : Condition). IfSome (doubt_of c) (IsWritable t)) (sym up) tt;
  }
