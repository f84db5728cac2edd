-- What choosing comes to where candidates are offered one after another.
use Rattle.std.proofs.Common.{◌≡◌, ℕ, suc, ◌+◌, Bool, true, false, cond, List, [], ◌∷◌, ◌++◌, length, map, Option, Some, refl, sym, ap, subst, ◌∙◌, arith}
use Rattle.std.proofs.lemmas.Bool.Decides.{nat_tests}
use Rattle.std.proofs.lemmas.List.{length-append}
use Rattle.std.specs.Prelude.{option_map, fold, not, ◌==◌, ◌||◌}
use Rattle.mqb_base.specs.declared.heads.SessionHead.{SessionHead}
use Rattle.mqb_base.specs.declared.message.Message.{Message}
use Rattle.mqb_session.specs.State as one_end
use Rattle.mqb_model.specs.calls.pump.Candidates.{Candidate}
use Rattle.mqb_model.specs.calls.pump.Choosing.{candidate_size, chosen, head_for, may_follow, session_after, session_behind, with_heads}
use Rattle.mqb_model.specs.state.State.{State}
use Rattle.mqb_choosing.specs.declared.choice.Choice.{Choice}
use Rattle.mqb_choosing.specs.declared.choice.Origin.{Origin}
use Rattle.mqb_choosing.specs.Choices.{coming_from, message_at, shown}
use Rattle.mqb_choosing.specs.Going.{Chosen, Going, Offers, coming_to, offered, with_choice}

-- the same, where more may follow or not
abbrev pub with_more : Going → Bool → Going
with_more g more = record { choices = g.choices; session = g.session; bytes = g.bytes; more = more }

-- nothing more goes
pub offers_closed : (s : State) (g : Going) (cs : List Candidate) → g.more ≡ false → Offers s g g cs
offers_closed s g cs closed next = subst (λ (more : Bool). coming_to s (with_more g more) next ≡ coming_to s (with_more g more) (cs ++ next)) (sym closed) refl

-- a packet more at the end of those that are shown
push_shown : {X Y : Type 0} (f : X → Y) (xs : List X) (x : X) (ys : List Y) → map f (xs ++ x ∷ []) ++ ys ≡ map f xs ++ (f x ∷ ys)
push_shown f [] x ys = refl
push_shown {X} {Y} f (y ∷ xs) x ys = ap (λ (rest : List Y). f y ∷ rest) (push_shown f xs x ys)

abbrev pub coming : List (Option (Candidate × SessionHead)) → one_end.State → ℕ → Bool → Chosen
coming packets session bytes any = record { packets = packets; session = session; bytes = bytes; any = any }

pub same_chosen : (p q : List (Option (Candidate × SessionHead))) (session : one_end.State) (bytes : ℕ) (a b : Bool) → p ≡ q → a ≡ b
    → coming p session bytes a ≡ coming q session bytes b
same_chosen p q session bytes a b same any = ap (λ (p : List (Option (Candidate × SessionHead))). coming p session bytes a) same
    ∙ ap (λ (a : Bool). coming q session bytes a) any

some_any : (a : Bool) (n : ℕ) → (a || not (suc n == 0)) ≡ true
some_any true n = refl
some_any false n = grind (arith, nat_tests)

more_any : (b : Bool) (n : ℕ) → (not ((n + 1) == 0) || b) ≡ true
more_any b n = let some : ((n + 1) == 0) ≡ false = grind (arith, nat_tests) in rw some refl

-- one candidate was offered
pub offers_one : (s : State) (g : Going) (origin : Origin) (m : Message) (size : ℕ) → message_at s origin ≡ Some m
    → size ≡ candidate_size (coming_from origin m) → Offers s g (offered origin size g) (coming_from origin m ∷ [])
offers_one s g origin m size there sized next =
    subst (λ (size : ℕ). coming_to s (offered origin size g) next ≡ coming_to s g (c ∷ next)) (sym sized) (at g.more)
  where
    c : Candidate
    c = coming_from origin m

    head : SessionHead
    head = head_for g.session c

    behind : one_end.State
    behind = session_after g.session c

    choice : Choice
    choice = record { origin = origin; head = head }

    bytes : ℕ
    bytes = g.bytes + candidate_size c

    -- what follows where so many went
    cs_behind : ℕ → List Candidate
    cs_behind count = chosen behind count bytes next

    packets_behind : ℕ → List (Option (Candidate × SessionHead))
    packets_behind count = map (λ given. Some given) (with_heads behind (cs_behind count))

    total : ℕ → ℕ
    total count = fold (λ n c. n + candidate_size c) bytes (cs_behind count)

    front : List (Option (Candidate × SessionHead))
    front = map (shown s) g.choices

    going : ℕ → Chosen
    going count = coming (front ++ (Some (c, head) ∷ packets_behind count)) (session_behind behind (cs_behind count)) (total count) true

    any_before : Bool
    any_before = not (length g.choices == 0) || not (length (c ∷ next) == 0)

    any_is : any_before ≡ true
    any_is = some_any (not (length g.choices == 0)) (length next)

    -- whether it goes or not
    at_last : Bool → Chosen
    at_last b =
        let cs : List Candidate = cond b (c ∷ chosen behind (length g.choices + 1) bytes next) [] in
        record {
          packets = map (shown s) g.choices ++ map (λ given. Some given) (with_heads g.session cs);
          session = session_behind g.session cs;
          bytes = fold (λ n c. n + candidate_size c) g.bytes cs;
          any = any_before;
        }

    seen : shown s choice ≡ Some (c, head)
    seen = ap (option_map (λ (m : Message). (coming_from origin m, head))) there

    goes : coming_to s (with_choice origin (candidate_size c) (with_more g true)) next ≡ at_last true
    goes =
        let many : ℕ = length (g.choices ++ choice ∷ []) in
        let count : many ≡ length g.choices + 1 = length-append g.choices (choice ∷ []) in
        let packets : map (shown s) (g.choices ++ choice ∷ []) ++ packets_behind many ≡ front ++ (Some (c, head) ∷ packets_behind many) =
        push_shown (shown s) g.choices choice (packets_behind many)
        ∙ ap (λ (x : Option (Candidate × SessionHead)). front ++ (x ∷ packets_behind many)) seen in
        let any : (not (many == 0) || not (length next == 0)) ≡ true =
        ap (λ (n : ℕ). not (n == 0) || not (length next == 0)) count ∙ more_any (not (length next == 0)) (length g.choices) in
        same_chosen (map (shown s) (g.choices ++ choice ∷ []) ++ packets_behind many) (front ++ (Some (c, head) ∷ packets_behind many))
        (session_behind behind (cs_behind many)) (total many) (not (many == 0) || not (length next == 0)) true packets any
        ∙ ap going count
        ∙ ap (λ (a : Bool). coming (front ++ (Some (c, head) ∷ packets_behind (length g.choices + 1))) (session_behind behind (cs_behind (length g.choices + 1)))
        (total (length g.choices + 1)) a) (sym any_is)

    stays : coming_to s (with_more g false) next ≡ at_last false
    stays = ap (λ (a : Bool). coming (front ++ []) g.session g.bytes a) (sym any_is)

    then : (b : Bool) → coming_to s (cond b (with_choice origin (candidate_size c) (with_more g true)) (with_more g false)) next ≡ at_last b
    then true = goes
    then false = stays

    at : (more : Bool) → coming_to s (offered origin (candidate_size c) (with_more g more)) next ≡ coming_to s (with_more g more) (c ∷ next)
    at true = then (may_follow g.session (length g.choices) g.bytes c)
    at false = refl
