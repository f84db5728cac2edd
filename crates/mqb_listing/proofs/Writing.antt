-- Lines that are written part by part, and for each member of a list.
use Rattle.std.proofs.Common.{◌≡◌, ℕ, zero, suc, ◌+◌, ◌-◌, ◌==◌, List, [], ◌∷◌, ◌++◌, take, Option, Some, None, Result, Ok, Err, OnOk, true, false, refl, sym, ap, ◌∙◌, subst, append_assoc, append-nil, map, arith}
use Rattle.std.specs.List.{flat_map, slice_get}
use Rattle.std.specs.Option.{option_map, option_map_or}
use Rattle.std.specs.Prelude.{codes}
use Rattle.std.proofs.lemmas.List.Folds.{flat_map-map}
use Rattle.mqb_base.specs.declared.ids.Identity.{Identity}
use Rattle.mqb_base.specs.declared.message.Lane.{Lane}
use Rattle.mqb_base.specs.declared.message.Lane.TheVariants as lane
use Rattle.mqb_base.specs.declared.message.Message.{Message}
use Rattle.mqb_base.specs.declared.queues.EntryPlace.TheVariants as entry
use Rattle.mqb_base.specs.declared.queues.QueuePlan.{QueuePlan}
use Rattle.mqb_contents.specs.mqb_model.state.State.{State}
use Rattle.mqb_orders.specs.Rows.{row_of}
use Rattle.mqb_orders.specs.declared.rows.InRow.{InRow}
use Rattle.mqb_orders.specs.declared.rows.OutRow.{OutRow}
use Rattle.mqb_queue.specs.Lists.{Lists, messages_in}
use Rattle.mqb_queue.specs.Places.{Places, Queue, lists_at, numbered}
use Rattle.mqb_transcript.specs.Printing.{Page, wrote}
use Rattle.mqb_transcript.specs.lemmas.Wrote.{hosts_wrote, last_wrote, then_wrote}
use Rattle.mqb_listing.specs.Lines.{host_line, in_line, machine_lines, out_line, place_line, queue_lines}
use Rattle.mqb_listing.specs.Listing.{listed}

-- Parts of one line.

-- a part that is printed with the hosts
pub then_told : (f : List Identity → List ℕ) (start page next : Page) (a : List ℕ) → page ≡ wrote start a → next ≡ wrote page (f page.hosts)
    → next ≡ wrote start (a ++ f start.hosts)
then_told f start page next a before now =
    let known : page.hosts ≡ start.hosts = ap (λ (p : Page). p.hosts) before ∙ hosts_wrote start a in
    then_wrote start page next a (f start.hosts) before (now ∙ ap (λ hosts. wrote page (f hosts)) known)

-- the last part
pub last_part : {T E : Type 0} (r : Result T E) (start page last : Page) (a b text : List ℕ) → page ≡ wrote start a → OnOk r (last ≡ wrote page b)
    → a ++ b ≡ text → OnOk r (last ≡ wrote start text)
last_part r start page last a b text before now same =
    subst (λ t. OnOk r (last ≡ wrote start t)) same (last_wrote r start page last a b before now)

-- the last part, printed with the hosts
pub last_told : {T E : Type 0} (f : List Identity → List ℕ) (r : Result T E) (start page last : Page) (a text : List ℕ) → page ≡ wrote start a
    → OnOk r (last ≡ wrote page (f page.hosts)) → a ++ f start.hosts ≡ text → OnOk r (last ≡ wrote start text)
last_told f (Ok x) start page last a text before now same = then_told f start page last a before now ∙ ap (wrote start) same
last_told f (Err e) start page last a text before now same = tt

-- the host, a word, two parts and the end make a line
pub line_of_parts : (host word a b : List ℕ) → (((host ++ 32 ∷ word) ++ a) ++ b) ++ codes "\n" ≡ host_line host ((word ++ a) ++ b)
unfolding host_line
line_of_parts host word a b =
    ap (λ t. (t ++ b) ++ codes "\n") (append_assoc host (32 ∷ word) a) ∙ ap (λ t. t ++ codes "\n") (append_assoc host (32 ∷ (word ++ a)) b)

-- Members of lists.

-- the members up to one, and that one, where it is there
flat_at : {X : Type 0} (f : X → List ℕ) (xs : List X) (k : ℕ)
    → flat_map f (take (k + 1) xs) ≡ flat_map f (take k xs) ++ option_map_or f (slice_get xs k) []
flat_at f [] zero = refl
flat_at f [] (suc k) = let more : suc k + 1 ≡ suc (k + 1) = omega arith in rw more refl
flat_at f (x ∷ xs) zero = append-nil (f x)
flat_at f (x ∷ xs) (suc k) =
    let more : suc k + 1 ≡ suc (k + 1) = omega arith in
    rw more (ap (λ rest. f x ++ rest) (flat_at f xs k) ∙ sym (append_assoc (f x) (flat_map f (take k xs)) (option_map_or f (slice_get xs k) [])))

pub wrote_at : {X : Type 0} (f : List Identity → X → List ℕ) (start page next : Page) (xs : List X) (k : ℕ)
    → page ≡ wrote start (flat_map (f start.hosts) (take k xs)) → next ≡ wrote page (option_map_or (f page.hosts) (slice_get xs k) [])
    → next ≡ wrote start (flat_map (f start.hosts) (take (k + 1) xs))
wrote_at f start page next xs k before now =
    then_told (λ hosts. option_map_or (f hosts) (slice_get xs k) []) start page next (flat_map (f start.hosts) (take k xs)) before now
    ∙ ap (wrote start) (sym (flat_at (f start.hosts) xs k))

-- Places.

-- the line of a place is that of its messages
pub line_at : (hosts : List Identity) (host word : List ℕ) (o : Option Lists) (durable express : List Message)
    → Some durable ≡ option_map (messages_in lane.Durable) o → Some express ≡ option_map (messages_in lane.Express) o
    → place_line hosts host word (record { durable = durable; express = express }) ≡ option_map_or (place_line hosts host word) o []
line_at hosts host word None durable express d e = cc
line_at hosts host word (Some held) durable express d e =
    let first : durable ≡ held.durable = cc in let second : express ≡ held.express = cc in
    ap (λ x. place_line hosts host word (record { durable = x; express = express })) first
    ∙ ap (λ x. place_line hosts host word (record { durable = held.durable; express = x })) second

-- a place that is not there has no line
pub no_line : (hosts : List Identity) (host word : List ℕ) (kind : Lane) (o : Option Lists) → None ≡ option_map (messages_in kind) o
    → [] ≡ option_map_or (place_line hosts host word) o []
no_line hosts host word kind None e = refl
no_line hosts host word kind (Some held) e = cc

-- the queue at a place in the list has the next number
numbered_next : {X : Type 0} (xs : List X) (k : ℕ) → numbered xs (k + 1) ≡ slice_get xs k
numbered_next xs k =
    let some : (k + 1 == 0) ≡ false = grind arith in let same : k + 1 - 1 ≡ k = omega arith in
    rw (some, same) refl

alone_of : (hosts : List Identity) (host name : List ℕ) (plan : QueuePlan) (o : Option Queue) → option_map (λ q. q.plan) o ≡ Some plan
    → name ≡ plan.name → plan.journal ≡ false
    → option_map_or (place_line hosts host (codes "queue " ++ name)) (option_map (λ q. q.lists) o) [] ≡ option_map_or (queue_lines hosts host) o []
unfolding queue_lines
alone_of hosts host name plan None e n j = refl
alone_of hosts host name plan (Some q) e n j =
    let same : plan ≡ q.plan = cc in
    let named : name ≡ q.plan.name = n ∙ ap (λ (p : QueuePlan). p.name) same in
    let quiet : q.plan.journal ≡ false = sym (ap (λ (p : QueuePlan). p.journal) same) ∙ j in
    rw (named, quiet) (sym (append-nil (place_line hosts host (codes "queue " ++ q.plan.name) q.lists)))

-- a queue that keeps no journal has one line
pub queue_alone : (hosts : List Identity) (host name : List ℕ) (plan : QueuePlan) (s : Places) (k : ℕ)
    → option_map (λ q. q.plan) (slice_get s.queues k) ≡ Some plan → name ≡ plan.name → plan.journal ≡ false
    → option_map_or (place_line hosts host (codes "queue " ++ name)) (lists_at s (entry.Queue (k + 1))) []
    ≡ option_map_or (queue_lines hosts host) (slice_get s.queues k) []
queue_alone hosts host name plan s k e n j =
    ap (λ o. option_map_or (place_line hosts host (codes "queue " ++ name)) (option_map (λ q. q.lists) o) []) (numbered_next s.queues k)
    ∙ alone_of hosts host name plan (slice_get s.queues k) e n j

both_of : (hosts : List Identity) (host name : List ℕ) (plan : QueuePlan) (o : Option Queue) → option_map (λ q. q.plan) o ≡ Some plan
    → name ≡ plan.name → plan.journal ≡ true
    → option_map_or (place_line hosts host (codes "queue " ++ name)) (option_map (λ q. q.lists) o) []
    ++ option_map_or (place_line hosts host (codes "journalof " ++ name)) (option_map (λ q. q.journal) o) []
    ≡ option_map_or (queue_lines hosts host) o []
unfolding queue_lines
both_of hosts host name plan None e n j = refl
both_of hosts host name plan (Some q) e n j =
    let same : plan ≡ q.plan = cc in
    let named : name ≡ q.plan.name = n ∙ ap (λ (p : QueuePlan). p.name) same in
    let kept : q.plan.journal ≡ true = sym (ap (λ (p : QueuePlan). p.journal) same) ∙ j in
    rw (named, kept) refl

-- one that keeps a journal has two
pub queue_and_journal : (hosts : List Identity) (host name : List ℕ) (plan : QueuePlan) (s : Places) (k : ℕ)
    → option_map (λ q. q.plan) (slice_get s.queues k) ≡ Some plan → name ≡ plan.name → plan.journal ≡ true
    → option_map_or (place_line hosts host (codes "queue " ++ name)) (lists_at s (entry.Queue (k + 1))) []
    ++ option_map_or (place_line hosts host (codes "journalof " ++ name)) (lists_at s (entry.JournalOf (k + 1))) []
    ≡ option_map_or (queue_lines hosts host) (slice_get s.queues k) []
queue_and_journal hosts host name plan s k e n j =
    ap (λ o. option_map_or (place_line hosts host (codes "queue " ++ name)) (option_map (λ q. q.lists) o) []
    ++ option_map_or (place_line hosts host (codes "journalof " ++ name)) (option_map (λ q. q.journal) o) []) (numbered_next s.queues k)
    ∙ both_of hosts host name plan (slice_get s.queues k) e n j

-- The lines of a manager, from its parts.

parts_listed : List Identity → List ℕ → (first second : Places) → List ℕ → List InRow → List ℕ
parts_listed hosts host first second outs ins =
    ((flat_map (queue_lines hosts host) first.queues ++ machine_lines hosts host second) ++ outs) ++ flat_map (in_line hosts host) ins

outs_listed : List ℕ → List OutRow → List ℕ
outs_listed host outs = flat_map (λ r. out_line host (row_of r)) outs

-- outgoing rows are seen without their room
pub listed_of_parts : (hosts : List Identity) (host : List ℕ) (s : State) (first second : Places) (outs : List OutRow) (ins : List InRow)
    → host ≡ s.identity.host → first ≡ s.places → second ≡ s.places → map row_of outs ≡ s.outs → ins ≡ s.ins
    → ((flat_map (queue_lines hosts host) first.queues ++ machine_lines hosts host second) ++ flat_map (λ r. out_line host (row_of r)) outs)
    ++ flat_map (in_line hosts host) ins ≡ listed hosts s.identity.host s
unfolding listed parts_listed outs_listed
listed_of_parts hosts host s first second outs ins at queues places rows heard =
    let own = s.identity.host in
    ap (λ h. parts_listed hosts h first second (outs_listed h outs) ins) at
    ∙ ap (λ p. parts_listed hosts own p second (outs_listed own outs) ins) queues
    ∙ ap (λ p. parts_listed hosts own s.places p (outs_listed own outs) ins) places
    ∙ ap (λ t. parts_listed hosts own s.places s.places t ins) (sym (flat_map-map (out_line own) row_of outs) ∙ ap (flat_map (out_line own)) rows)
    ∙ ap (λ x. parts_listed hosts own s.places s.places (flat_map (out_line own) s.outs) x) heard
