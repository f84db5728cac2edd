-- What is known of a connection once packets went, and how many bytes they have.
use Rattle.std.proofs.Common.{◌≡◌, ℕ, ◌≤◌, List, [], ◌∷◌, length, map, Option, Some, None, refl, ◌∙◌, arith}
use Rattle.std.proofs.lemmas.List.{length-append, set_past}
use Rattle.std.proofs.lemmas.List.Sums.{sum_by-cons}
use Rattle.std.specs.List.{AllByRecursion, cons_option, flat_map}
use Rattle.std.specs.Prelude.{IsSomeAnd, fold, option_map, slice_set, sum_by}
use Rattle.mqb_base.specs.declared.heads.SessionHead.{SessionHead}
use Rattle.mqb_base.specs.declared.heads.TxHead.{TxHead}
use Rattle.mqb_base.specs.declared.ids.Guid.{Guid}
use Rattle.mqb_base.specs.declared.message.Message.{Message}
use Rattle.mqb_packet.specs.Plain.{carried_user, message_size, packet_size, plain_spelling}
use Rattle.mqb_packet.specs.declared.packet.Packet.{Packet}
use Rattle.mqb_packet.specs.declared.packet.Packet.TheVariants as packet
use Rattle.mqb_session.specs.State as one_end
use Rattle.mqb_model.specs.calls.pump.Candidates.{Candidate}
use Rattle.mqb_model.specs.calls.pump.Choosing.{candidate_size, head_for, headers_for, session_after, with_heads}
use Rattle.mqb_model.specs.calls.pump.Pump.{carriage_for, packet_for, settled, settled_as}
use Rattle.mqb_model.specs.managers.Manager.{Rest}
use Rattle.mqb_model.specs.state.State.{State}
use Rattle.mqb_choosing.specs.declared.choice.Choice.{Choice}
use Rattle.mqb_choosing.specs.Choices.{IsSendable, IsThere, coming_from, message_at, origin_of, shown_in}

-- nothing is set where there is no place
pub not_set : {X : Type 0} (xs : List X) (i : ℕ) (y : X) → length xs ≤ i → slice_set xs i y ≡ xs
not_set xs i y past = set_past xs i y past

abbrev pub settled_by : Rest → List Choice → Rest
settled_by rest choices = fold (λ rest c. settled_as rest (origin_of c.origin)) rest choices

-- where each message is there, the candidates come from the same places
pub settled_is : (s : State) (rest : Rest) (choices : List Choice) → AllByRecursion (IsThere s) choices
    → settled_by rest choices ≡ settled rest (map (λ given. given.0) (shown_in s choices))
settled_is s rest [] there = refl
settled_is s rest (c ∷ choices) there = at (message_at s c.origin) there.0 (settled_is s (settled_as rest (origin_of c.origin)) choices there.1)
  where
    next : Rest
    next = settled_as rest (origin_of c.origin)

    at : (o : Option Message) → IsSomeAnd {T = Candidate × SessionHead} (option_map (λ m. (coming_from c.origin m, c.head)) o) (λ given. IsSendable given.0)
        → settled_by next choices ≡ settled next (map (λ given. given.0) (shown_in s choices))
        → settled_by next choices
        ≡ settled rest (map (λ given. given.0) (cons_option {X = Candidate × SessionHead} (option_map (λ m. (coming_from c.origin m, c.head)) o) (shown_in s choices)))
    at None there same = absurd there
    at (Some m) there same = same

-- A packet has the bytes that were counted.
packet_counted : (to : Guid) (now : ℕ) (c : Candidate) (head : SessionHead) → packet_size (packet_for to now (c, head)) ≡ candidate_size c
packet_counted to now c head = at c.tx
  where
    at : (o : Option TxHead) → packet_size (packet.User (carried_user c.message (record (carriage_for to now (c, head)) { tx = o }))) ≡ message_size (headers_for o) c.message
    at None = refl
    at (Some tx) = refl

-- so its spelling has them, where spellings have the sizes of their packets
pub one_counted : ((p : Packet) → length (plain_spelling p) ≡ packet_size p) → (to : Guid) (now : ℕ) (given : Candidate × SessionHead)
    → length (plain_spelling (packet_for to now given)) ≡ candidate_size given.0
one_counted sized to now given = sized (packet_for to now given) ∙ packet_counted to now given.0 given.1

-- with their headers candidates have as many
pub heads_counted : (session : one_end.State) (cs : List Candidate) → sum_by (λ given. candidate_size given.0) (with_heads session cs) ≡ sum_by candidate_size cs
heads_counted session [] = refl
heads_counted session (c ∷ cs) =
    let more = sum_by-cons {X = Candidate × SessionHead} (λ given. candidate_size given.0) (c, head_for session c) (with_heads (session_after session c) cs) in
    omega (arith, more, sum_by-cons candidate_size c cs, heads_counted (session_after session c) cs)

pub all_counted : ((p : Packet) → length (plain_spelling p) ≡ packet_size p) → (to : Guid) (now : ℕ) (session : one_end.State) (cs : List Candidate)
    → length (flat_map (λ given. plain_spelling (packet_for to now given)) (with_heads session cs)) ≡ sum_by candidate_size cs
all_counted sized to now session [] = refl
all_counted sized to now session (c ∷ cs) =
    let head : SessionHead = head_for session c in
    let rest = flat_map (λ given. plain_spelling (packet_for to now given)) (with_heads (session_after session c) cs) in
    let first : length (plain_spelling (packet_for to now (c, head))) ≡ candidate_size c = sized (packet_for to now (c, head)) ∙ packet_counted to now c head in
    omega (arith, length-append (plain_spelling (packet_for to now (c, head))) rest, first, sum_by-cons candidate_size c cs, all_counted sized to now (session_after session c) cs)
