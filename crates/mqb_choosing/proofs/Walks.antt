-- Loops over what was chosen.
use Rattle.std.proofs.Common.{◌≡◌, ℕ, zero, suc, ◌+◌, ◌<◌, ◌≤◌, List, [], ◌∷◌, ◌++◌, length, drop, map, get_or, Option, Some, None, refl, sym, ap, subst, ◌∙◌, arith, append_assoc}
use Rattle.std.proofs.lemmas.List.{length-append}
use Rattle.std.proofs.lemmas.List.Elements.{All-cons}
use Rattle.std.proofs.lemmas.List.Sums.{sum_by-cons}
use Rattle.std.proofs.lemmas.Option.{none-some, same_Some}
use Rattle.std.specs.List.{AllByRecursion, cons_option, enumerate_from, flat_map}
use Rattle.std.specs.Prelude.{All, IsSomeAnd, filter_map, fold, max, option_map, slice_get, sum_by}
use Rattle.mqb_base.specs.declared.heads.SessionHead.{SessionHead}
use Rattle.mqb_base.specs.declared.message.Message.{Message}
use Rattle.mqb_entries.specs.declared.members.Mark.{Mark}
use Rattle.mqb_orders.specs.Rows.{Row}
use Rattle.mqb_model.specs.calls.pump.Candidates.{Candidate}
use Rattle.mqb_model.specs.calls.pump.Choosing.{candidate_size}
use Rattle.mqb_model.specs.calls.pump.Pump.{greatest_sent, mark_for, number_of_row}
use Rattle.mqb_model.specs.state.State.{State}
use Rattle.mqb_choosing.specs.declared.choice.Choice.{Choice}
use Rattle.mqb_choosing.specs.Choices.{IsSendable, IsThere, bytes_in, coming_from, message_at, origin_of, shown, shown_in}
use Rattle.mqb_choosing.specs.Marks.{greatest_chosen, rising_mark}
use Rattle.mqb_choosing.proofs.Left.{front_is, got_is}

pub front_read : {X : Type 0} (xs : List X) (i : ℕ) (x : X) → i < length xs → x ≡ get_or xs i x → drop i xs ≡ x ∷ drop (i + 1) xs
front_read {X} xs i x within is = front_is xs i x (got_is xs i x within ∙ ap (λ (y : X). Some y) (sym is))

pub map_got : {X Y : Type 0} (f : X → Y) (xs : List X) (i : ℕ) (x : X) → slice_get xs i ≡ Some x → slice_get (map f xs) i ≡ Some (f x)
map_got f [] i x is = absurd (none-some x is)
map_got {X} {Y} f (y ∷ xs) zero x is = ap (λ (x : X). Some (f x)) (same_Some y x is)
map_got f (y ∷ xs) (suc i) x is = map_got f xs i x is

-- The greatest number of a row.

abbrev pub numbers_in : ℕ → List Choice → List ℕ
numbers_in row choices = filter_map (λ c. number_of_row row (origin_of c.origin)) choices

pub greatest_more : (row : ℕ) (choices : List Choice) (i : ℕ) (x : Choice) (o : Option ℕ) (greatest next total : ℕ) → i < length choices → x ≡ get_or choices i x
    → o ≡ number_of_row row (origin_of x.origin) → fold max next (numbers_in row (drop (i + 1) choices)) ≡ fold max greatest (cons_option o (numbers_in row (drop (i + 1) choices)))
    → fold max greatest (numbers_in row (drop i choices)) ≡ total → fold max next (numbers_in row (drop (i + 1) choices)) ≡ total
greatest_more row choices i x o greatest next total within is number step left =
    step
    ∙ ap (λ (o : Option ℕ). fold max greatest (cons_option o (numbers_in row (drop (i + 1) choices)))) number
    ∙ sym (ap (λ (cs : List Choice). fold max greatest (numbers_in row cs)) (front_read choices i x within is))
    ∙ left

-- Where each message is there, the chosen packets are as many candidates, from the same places.
greatest_in : (s : State) (index start : ℕ) (choices : List Choice) → AllByRecursion (IsThere s) choices
    → fold max start (numbers_in index choices) ≡ fold max start (filter_map (λ c. number_of_row index c.origin) (map (λ given. given.0) (shown_in s choices)))
greatest_in s index start [] there = refl
greatest_in s index start (c ∷ choices) there = at (message_at s c.origin) there.0 (λ start. greatest_in s index start choices there.1)
  where
    rest : List Candidate
    rest = map (λ given. given.0) (shown_in s choices)

    at : (o : Option Message) → IsSomeAnd {T = Candidate × SessionHead} (option_map (λ m. (coming_from c.origin m, c.head)) o) (λ given. IsSendable given.0)
        → ((start : ℕ) → fold max start (numbers_in index choices) ≡ fold max start (filter_map (λ c. number_of_row index c.origin) rest))
        → fold max start (cons_option (number_of_row index (origin_of c.origin)) (numbers_in index choices))
        ≡ fold max start (filter_map (λ c. number_of_row index c.origin) (map (λ given. given.0) (cons_option {X = Candidate × SessionHead} (option_map (λ m. (coming_from c.origin m, c.head)) o) (shown_in s choices))))
    at None there behind = absurd there
    at (Some m) there behind = counted (number_of_row index (origin_of c.origin))
      where
        counted : (o : Option ℕ) → fold max start (cons_option o (numbers_in index choices)) ≡ fold max start (cons_option o (filter_map (λ c. number_of_row index c.origin) rest))
        counted None = behind start
        counted (Some n) = behind (max start n)

pub greatest_is : (s : State) (index : ℕ) (choices : List Choice) → AllByRecursion (IsThere s) choices
    → greatest_chosen choices index ≡ greatest_sent (map (λ given. given.0) (shown_in s choices)) index
greatest_is s index choices there = greatest_in s index 0 choices there

-- One row more, of those that are left.
pub mark_more : (cs : List Candidate) (rows : List Row) (k : ℕ) (row : Row) (o : Option Mark) (marks next total : List Mark) (greatest : ℕ)
    → drop k rows ≡ row ∷ drop (k + 1) rows → greatest ≡ greatest_sent cs k → o ≡ rising_mark greatest row → next ≡ marks ++ cons_option o []
    → marks ++ filter_map (mark_for cs) (enumerate_from k (drop k rows)) ≡ total
    → next ++ filter_map (mark_for cs) (enumerate_from (k + 1) (drop (k + 1) rows)) ≡ total
mark_more cs rows k row o marks next total greatest front top is pushed left =
    ap (λ (ms : List Mark). ms ++ behind) pushed
    ∙ append_assoc marks (cons_option o []) behind
    ∙ ap (λ (ms : List Mark). marks ++ ms) (joined o)
    ∙ ap (λ (o : Option Mark). marks ++ cons_option o behind) (is ∙ ap (λ (n : ℕ). rising_mark n row) top)
    ∙ sym (ap (λ (rows : List Row). marks ++ filter_map (mark_for cs) (enumerate_from k rows)) front)
    ∙ left
  where
    behind : List Mark
    behind = filter_map (mark_for cs) (enumerate_from (k + 1) (drop (k + 1) rows))

    joined : (o : Option Mark) → cons_option o [] ++ behind ≡ cons_option o behind
    joined None = refl
    joined (Some m) = refl

-- Packets in bytes.

pub text_more : (s : State) (spell : Candidate × SessionHead → List ℕ) (choices : List Choice) (i : ℕ) (x : Choice) (now new total : List ℕ)
    → drop i choices ≡ x ∷ drop (i + 1) choices → IsSomeAnd (shown s x) (λ given. new ≡ now ++ spell given)
    → now ++ flat_map spell (shown_in s (drop i choices)) ≡ total → new ++ flat_map spell (shown_in s (drop (i + 1) choices)) ≡ total
text_more s spell choices i x now new total front added left =
    at (shown s x) added ∙ sym (ap (λ (cs : List Choice). now ++ flat_map spell (shown_in s cs)) front) ∙ left
  where
    behind : List (Candidate × SessionHead)
    behind = shown_in s (drop (i + 1) choices)

    at : (o : Option (Candidate × SessionHead)) → IsSomeAnd o (λ given. new ≡ now ++ spell given) → new ++ flat_map spell behind ≡ now ++ flat_map spell (cons_option o behind)
    at None added = absurd added
    at (Some given) added = ap (λ (t : List ℕ). t ++ flat_map spell behind) added ∙ append_assoc now (spell given) (flat_map spell behind)

-- What holds of one more, and of those behind it, holds of all that are left.
pub all_more : (s : State) (P : Candidate × SessionHead → Type 0) (choices : List Choice) (i : ℕ) (x : Choice) → drop i choices ≡ x ∷ drop (i + 1) choices
    → IsSomeAnd (shown s x) P → All P (shown_in s (drop (i + 1) choices)) → All P (shown_in s (drop i choices))
all_more s P choices i x front here behind = subst (λ (cs : List Choice). All P (shown_in s cs)) (sym front) (at (shown s x) here)
  where
    at : (o : Option (Candidate × SessionHead)) → IsSomeAnd o P → All P (cons_option o (shown_in s (drop (i + 1) choices)))
    at None here = absurd here
    at (Some given) here = All-cons P given (shown_in s (drop (i + 1) choices)) here behind

-- Where there is room for those that are left, there is for the next one,
pub one_has_room : (s : State) (choices : List Choice) (i : ℕ) (x : Choice) (n room : ℕ) → drop i choices ≡ x ∷ drop (i + 1) choices → IsThere s x
    → n + bytes_in s (drop i choices) ≤ room → IsSomeAnd (shown s x) (λ given. n + candidate_size given.0 ≤ room)
one_has_room s choices i x n room front there enough = at (shown s x) there (subst (λ (cs : List Choice). n + bytes_in s cs ≤ room) front enough)
  where
    behind : List (Candidate × SessionHead)
    behind = shown_in s (drop (i + 1) choices)

    at : (o : Option (Candidate × SessionHead)) → IsSomeAnd o (λ given. IsSendable given.0) → n + sum_by (λ given. candidate_size given.0) (cons_option o behind) ≤ room
        → IsSomeAnd o (λ given. n + candidate_size given.0 ≤ room)
    at None there enough = absurd there
    at (Some given) there enough = let more = sum_by-cons (λ given. candidate_size given.0) given behind in omega (arith, more, enough)

-- and then for those behind it.
pub rest_has_room : (s : State) (spell : Candidate × SessionHead → List ℕ) (choices : List Choice) (i : ℕ) (x : Choice) (now new : List ℕ) (room : ℕ)
    → ((given : Candidate × SessionHead) → length (spell given) ≡ candidate_size given.0) → drop i choices ≡ x ∷ drop (i + 1) choices
    → IsSomeAnd (shown s x) (λ given. new ≡ now ++ spell given) → length now + bytes_in s (drop i choices) ≤ room → length new + bytes_in s (drop (i + 1) choices) ≤ room
rest_has_room s spell choices i x now new room sized front added enough = at (shown s x) added (subst (λ (cs : List Choice). length now + bytes_in s cs ≤ room) front enough)
  where
    behind : List (Candidate × SessionHead)
    behind = shown_in s (drop (i + 1) choices)

    at : (o : Option (Candidate × SessionHead)) → IsSomeAnd o (λ given. new ≡ now ++ spell given) → length now + sum_by (λ given. candidate_size given.0) (cons_option o behind) ≤ room
        → length new + bytes_in s (drop (i + 1) choices) ≤ room
    at None added enough = absurd added
    at (Some given) added enough =
        let more = sum_by-cons (λ given. candidate_size given.0) given behind in
        let long : length new ≡ length now + length (spell given) = ap length added ∙ length-append now (spell given) in
        let size = sized given in
        omega (arith, more, long, size, enough)
