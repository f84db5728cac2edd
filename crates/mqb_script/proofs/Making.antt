-- The text that is made is that of its events.
use Rattle.std.proofs.Common.{◌≡◌, ◌+◌, ◌-◌, ◌*◌, ◌/◌, Bool, cond, List, [], ◌∷◌, ◌++◌, append_assoc, append-nil, refl, sym, ap, ◌∙◌, ℕ, true, false}
use Rattle.std.proofs.lemmas.Grind.{flat_map-append}
use Rattle.std.specs.Fmt.{decimal, digits}
use Rattle.std.specs.List.{cons_option, filter_map, flat_map, join_with_byte, range_with_len}
use Rattle.std.specs.Prelude.{None, Some, ◌==◌, codes, map, nat_le}
use Rattle.mqb_base.specs.declared.draft.Op.{Op}
use Rattle.mqb_outside.specs.declared.power.Pick.TheVariants.{Old}
use Rattle.mqb_script.specs.Managers.{host_of, index_of}
use Rattle.mqb_script.specs.declared.grammar.Grammar.TheVariants.{Pair}
use Rattle.mqb_script.specs.Spelling.{line_of, op_text}
use Rattle.mqb_script.specs.declared.events.Event.{Event}
use Rattle.mqb_script.specs.declared.events.Event.TheVariants.{Commit, Disconnect, Flow, Restart}
use Rattle.mqb_script.specs.declared.managers.Which.{Which}
use Rattle.mqb_script.specs.declared.managers.Which.TheVariants.{Alpha, Beta}
use Rattle.mqb_transcript.specs.Generator.{block_count, block_text, breaks_text, broken_text, commit_text, connect_text, flow_text, flows_text, generated, head_text, moment_of, order_of, order_text}
use Rattle.mqb_script.specs.Orders.{alpha, beta, block_of, breaks_in, broken_by, connection_at, events_of, flows_at, head_events, order, order_within, orders_in}
use Rattle.mqb_script.proofs.MadeReading.{text_of}

-- Numbers that stand in it.

days_text : decimal 345600 ≡ codes "345600"
unfolding digits
days_text = refl

window_text : decimal 64 ≡ codes "64"
unfolding digits
window_text = refl

quota_text : decimal 100000 ≡ codes "100000"
unfolding digits
quota_text = refl

moment_text : decimal 1000 ≡ codes "1000"
unfolding digits
moment_text = refl

-- Lines.

order_is : (k : ℕ) → order_text k ≡ 32 ∷ op_text (order k)
unfolding order_text digits
order_is k = refl

-- words behind the first one
words_are : (x : List ℕ) (xs : List (List ℕ)) → join_with_byte 32 (x ∷ xs) ≡ x ++ flat_map (λ w. 32 ∷ w) xs
words_are x [] = sym (append-nil x)
words_are x (y ∷ xs) = ap (λ (t : List ℕ). x ++ 32 ∷ t) (words_are y xs)

abbrev spaced_ops : List Op → List ℕ
spaced_ops ops = flat_map (λ w. 32 ∷ w) (map op_text ops)

one_order : (n : ℕ) (k : ℕ) (ks : List ℕ) (t : Bool) → flat_map (order_of n) ks ≡ spaced_ops (filter_map (order_within n) ks)
    → cond t (order_text k) [] ++ flat_map (order_of n) ks ≡ spaced_ops (cons_option (cond t (Some (order k)) None) (filter_map (order_within n) ks))
one_order n k ks true rest = ap (λ (t : List ℕ). t ++ flat_map (order_of n) ks) (order_is k) ∙ ap (λ (t : List ℕ). (32 ∷ op_text (order k)) ++ t) rest
one_order n k ks false rest = rest

orders_are : (n : ℕ) (ks : List ℕ) → flat_map (order_of n) ks ≡ spaced_ops (filter_map (order_within n) ks)
unfolding order_of
orders_are n [] = refl
orders_are n (k ∷ ks) = one_order n k ks (nat_le k n) (orders_are n ks)

text_more : (es fs : List Event) → text_of (es ++ fs) ≡ text_of es ++ text_of fs
text_more es fs = flat_map-append (λ (e : Event). line_of Pair e ++ 10 ∷ []) es fs

-- the text of one event
abbrev line_text : Event → List ℕ
line_text e = line_of Pair e ++ 10 ∷ []

windows_are : (moment : ℕ) → decimal moment ++ codes " 64 64\n" ≡ (decimal moment ++ 32 ∷ (decimal 64 ++ 32 ∷ decimal 64)) ++ 10 ∷ []
windows_are moment = sym (append_assoc (decimal moment) (codes " 64 64") (10 ∷ []))
    ∙ ap (λ (w : List ℕ). (decimal moment ++ 32 ∷ (w ++ 32 ∷ w)) ++ 10 ∷ []) (sym window_text)

connect_is : (moment : ℕ) → connect_text moment ≡ line_text (connection_at moment)
unfolding connect_text
connect_is moment = ap (λ (t : List ℕ). codes "connect alpha " ++ t) (windows_are moment)

flow_is : (which : Which) (moment : ℕ) → flow_text (host_of which) moment ≡ line_text (Flow (index_of which) moment)
unfolding flow_text
flow_is Alpha moment = refl
flow_is Beta moment = refl

-- texts of events in a row

three_texts : (a b c : List ℕ) (e f g : Event) → a ≡ line_text e → b ≡ line_text f → c ≡ line_text g → (a ++ b) ++ c ≡ text_of (e ∷ f ∷ g ∷ [])
three_texts a b c e f g is_a is_b is_c = rw (is_a, is_b, is_c) (append_assoc (line_text e) (line_text f) (line_text g)
    ∙ ap (λ (t : List ℕ). line_text e ++ (line_text f ++ t)) (sym (append-nil (line_text g))))

four_texts : (a b c d : List ℕ) (es fs gs hs : List Event) → a ≡ text_of es → b ≡ text_of fs → c ≡ text_of gs → d ≡ text_of hs → ((a ++ b) ++ c) ++ d ≡ text_of (((es ++ fs) ++ gs) ++ hs)
four_texts a b c d es fs gs hs is_a is_b is_c is_d = rw (is_a, is_b, is_c, is_d) (sym (text_more ((es ++ fs) ++ gs) hs
    ∙ ap (λ (t : List ℕ). t ++ text_of hs) (text_more (es ++ fs) gs ∙ ap (λ (t : List ℕ). t ++ text_of gs) (text_more es fs))))

block_texts : (c b f : List ℕ) (e : Event) (bs fs : List Event) → c ≡ line_text e → b ≡ text_of bs → f ≡ text_of fs → (c ++ b) ++ f ≡ text_of (e ∷ (bs ++ fs))
block_texts c b f e bs fs is_c is_b is_f = rw (is_c, is_b, is_f) (append_assoc (line_text e) (text_of bs) (text_of fs) ∙ ap (λ (t : List ℕ). line_text e ++ t) (sym (text_more bs fs)))

flows_are : (moment : ℕ) → flows_text moment ≡ text_of (flows_at moment)
unfolding flows_text
flows_are moment = three_texts (flow_text (host_of Alpha) moment) (flow_text (host_of Beta) moment) (flow_text (host_of Alpha) moment)
    (Flow alpha moment) (Flow beta moment) (Flow alpha moment) (flow_is Alpha moment) (flow_is Beta moment) (flow_is Alpha moment)

broken_is : (here : Bool) (line : List ℕ) (e : Event) (moment : ℕ) → line ≡ line_of Pair e → broken_text here line moment ≡ text_of (broken_by here e moment)
unfolding broken_text
broken_is true line e moment is = ap (λ (l : List ℕ). (l ++ 10 ∷ []) ++ connect_text moment) is
    ∙ ap (λ (t : List ℕ). line_text e ++ t) (connect_is moment ∙ sym (append-nil (line_text (connection_at moment))))
broken_is false line e moment is = refl

module _ (n block : ℕ) (orders : List ℕ) (ops : List Op) (is : orders ≡ spaced_ops ops) where
  ops_are : (decimal (moment_of block) ++ orders) ++ 10 ∷ [] ≡ join_with_byte 32 (decimal (moment_of block) ∷ map op_text ops) ++ 10 ∷ []
  ops_are = ap (λ (t : List ℕ). t ++ 10 ∷ []) (ap (λ (t : List ℕ). decimal (moment_of block) ++ t) is ∙ sym (words_are (decimal (moment_of block)) (map op_text ops)))

  commit_by : ((codes "commit alpha " ++ decimal (moment_of block)) ++ orders) ++ codes "\n" ≡ line_text (Commit alpha (moment_of block) ops)
  commit_by = ap (λ (t : List ℕ). codes "commit alpha " ++ t) ops_are

commit_is : (n block : ℕ) → commit_text n block ≡ line_text (Commit alpha (moment_of block) (orders_in n block))
unfolding commit_text
commit_is n block = commit_by n block (flat_map (order_of n) (range_with_len (4 * block - 3) 4)) (orders_in n block) (orders_are n (range_with_len (4 * block - 3) 4))

breaks_are : (count block : ℕ) → breaks_text count block ≡ text_of (breaks_in count block)
unfolding breaks_text
breaks_are count block = four_texts
    (broken_text (block == count / 4 + 1) (codes "disconnect") (moment_of block)) (broken_text (block == count / 2 + 1) (codes "restart alpha old") (moment_of block))
    (broken_text (block == 3 * count / 4 + 1) (codes "restart beta old") (moment_of block)) (broken_text (block == count) (codes "disconnect") (moment_of block))
    (broken_by (block == count / 4 + 1) (Disconnect alpha) (moment_of block)) (broken_by (block == count / 2 + 1) (Restart alpha Old) (moment_of block))
    (broken_by (block == 3 * count / 4 + 1) (Restart beta Old) (moment_of block)) (broken_by (block == count) (Disconnect alpha) (moment_of block))
    (broken_is (block == count / 4 + 1) (codes "disconnect") (Disconnect alpha) (moment_of block) refl)
    (broken_is (block == count / 2 + 1) (codes "restart alpha old") (Restart alpha Old) (moment_of block) refl)
    (broken_is (block == 3 * count / 4 + 1) (codes "restart beta old") (Restart beta Old) (moment_of block) refl)
    (broken_is (block == count) (codes "disconnect") (Disconnect alpha) (moment_of block) refl)

block_is : (n block : ℕ) → block_text n block ≡ text_of (block_of n block)
unfolding block_text
block_is n block = block_texts (commit_text n block) (breaks_text (block_count n) block) (flows_text (moment_of block))
    (Commit alpha (moment_of block) (orders_in n block)) (breaks_in (block_count n) block) (flows_at (moment_of block))
    (commit_is n block) (breaks_are (block_count n) block) (flows_are (moment_of block))

blocks_are : (n : ℕ) (blocks : List ℕ) → flat_map (block_text n) blocks ≡ text_of (flat_map (block_of n) blocks)
blocks_are n [] = refl
blocks_are n (block ∷ blocks) = ap (λ (t : List ℕ). t ++ flat_map (block_text n) blocks) (block_is n block) ∙ ap (λ (t : List ℕ). text_of (block_of n block) ++ t) (blocks_are n blocks)
    ∙ sym (text_more (block_of n block) (flat_map (block_of n) blocks))

head_is : head_text ≡ text_of head_events
unfolding digits
head_is = refl

pub text_is : (n : ℕ) → generated n ≡ text_of (events_of n)
unfolding generated
text_is n = ap (λ (t : List ℕ). t ++ flat_map (block_text n) (range_with_len 1 (block_count n))) head_is
    ∙ ap (λ (t : List ℕ). text_of head_events ++ t) (blocks_are n (range_with_len 1 (block_count n)))
    ∙ sym (text_more head_events (flat_map (block_of n) (range_with_len 1 (block_count n))))
