-- A connection of the two managers is told: where it begins, four packets set it up.
use Rattle.std.proofs.Common.{◌≡◌, ◌+◌, ◌-◌, ◌==◌, ◌||◌, Bool, true, false, List, [], ◌∷◌, None, Option, Some, length, refl, sym, ap, ◌∙◌, zero, suc, arith, ℕ}
use Rattle.std.proofs.lemmas.Bool.Decides.{nat_tests}
use Rattle.std.specs.List.{list_any}
use Rattle.std.specs.Prelude.{if◌then◌else◌, is_some, slice_get, unwrap_or}
use Rattle.mqb_base.specs.declared.ids.Identity.{Identity}
use Rattle.mqb_deliveries.specs.Peers.{KnowEachOther}
use Rattle.mqb_deliveries.specs.lemmas.SettingUp.{sets_up}
use Rattle.mqb_history.specs.Orderly.{IsOrderly}
use Rattle.mqb_model.specs.managers.Manager.{Manager, is_down}
use Rattle.mqb_network.specs.Answers.{only}
use Rattle.mqb_network.specs.Connecting.{any_connected, any_down, both_linked, connect, connecting, set_up}
use Rattle.mqb_network.specs.Courses.{Course, course_from}
use Rattle.mqb_network.specs.Network.{Connection, Network, is_connected, is_end, manager_at, nobody}
use Rattle.mqb_network.specs.Replies as network
use Rattle.mqb_network.specs.Sending.{numbers_behind}
use Rattle.mqb_runs.specs.Hosts.{hosts}
use Rattle.mqb_script.specs.Hosts.{AreEnds}
use Rattle.mqb_script.specs.Managers.{other}
use Rattle.mqb_script.specs.declared.grammar.Grammar.TheVariants.{Pair}
use Rattle.mqb_script.specs.declared.managers.Which.{Which}
use Rattle.mqb_script.specs.declared.managers.Which.TheVariants.{Alpha, Beta}
use Rattle.mqb_session.specs.State as one_end
use Rattle.mqb_traffic.specs.Networks.{index_of}
use Rattle.mqb_transcript.specs.declared.replies.Reply.TheVariants as reply
use Rattle.mqb_runs.specs.Passes.{course_in}
use Rattle.mqb_runs.specs.Replies.{told}
use Rattle.mqb_run_laws.proofs.Tellable.{IsTold}

neither : (a b : Bool) → (a || b) ≡ false → (a ≡ false) × (b ≡ false)
neither false false fails = (refl, refl)
neither true b fails = absurd (let none : ⊥ = cc in none)
neither false true fails = absurd (let none : ⊥ = cc in none)

both : (b : Bool) → b ≡ true → b ≡ false → ⊥
both b holds fails = cc (holds, fails)

none_of : (o : Option one_end.State) → is_some o ≡ false → o ≡ None
none_of None fails = refl
none_of (Some s) fails = absurd (let none : ⊥ = cc in none)

-- a connection's first end has it
has_first : (d : Connection) (ds : List Connection) → list_any (is_end d.first) (d ∷ ds) ≡ true
has_first d ds = ap (λ (b : Bool). (b || d.second == d.first) || list_any (is_end d.first) ds) itself
  where
    itself : (d.first == d.first) ≡ true
    itself = grind (arith, nat_tests)

-- two managers are these
two_of : (ms : List Manager) → length ms ≡ 2 → ms ≡ unwrap_or (slice_get ms 0) nobody ∷ unwrap_or (slice_get ms 1) nobody ∷ []
two_of [] is = absurd (omega (arith, is))
two_of (m ∷ []) is = absurd (omega (arith, is))
two_of (m ∷ o ∷ []) is = refl
two_of (m ∷ o ∷ p ∷ ms) is = absurd (omega (arith, is))

module _ (c : Course) (orderly : IsOrderly hosts c) where
  abbrev n : Network
  n = c.network

  two : n.managers ≡ manager_at n 0 ∷ manager_at n 1 ∷ []
  two = two_of n.managers orderly.count

  -- there is no third one
  no_third : (k : ℕ) → is_some (manager_at n (suc (suc k))).rest.session ≡ false
  no_third k = ap (λ (ms : List Manager). is_some (unwrap_or (slice_get ms (suc (suc k))) nobody).rest.session) two

  know : KnowEachOther (manager_at n 0).state (manager_at n 1).state
  know = record {
    first = (orderly.themselves 0).peers ∙ ap (λ (i : Identity). i ∷ []) (sym (orderly.themselves 1).identity);
    second = (orderly.themselves 1).peers ∙ ap (λ (i : Identity). i ∷ []) (sym (orderly.themselves 0).identity);
  }

  -- where neither is connected there is no connection
  module _ (first_free : is_connected n 0 ≡ false) (second_free : is_connected n 1 ≡ false) where
    no_end : (k : ℕ) → is_connected n k ≡ true → ⊥
    no_end zero holds = both (is_connected n 0) holds first_free
    no_end (suc zero) holds = both (is_connected n 1) holds second_free
    no_end (suc (suc k)) holds = both (is_some (manager_at n (suc (suc k))).rest.session) ((orderly.linked (suc (suc k))).session ∙ holds) (no_third k)

    none : n.connections ≡ []
    none = at n.connections refl
      where
        at : (ds : List Connection) → n.connections ≡ ds → n.connections ≡ []
        at [] is = is
        at (d ∷ ds) is = absurd (no_end d.first (ap (λ (es : List Connection). list_any (is_end d.first) es) is ∙ has_first d ds))

    abbrev so : List Manager → List Connection → Network
    so ms ds = record { managers = ms; connections = ds; connected = n.connected; notes = n.notes; ledger = n.ledger }

    shape : n ≡ so (manager_at n 0 ∷ manager_at n 1 ∷ []) []
    shape = ap (λ (ms : List Manager). so ms n.connections) two ∙ ap (λ (ds : List Connection). so (manager_at n 0 ∷ manager_at n 1 ∷ []) ds) none

    module _ (first_up : is_down (manager_at n 0) ≡ false) (second_up : is_down (manager_at n 1) ≡ false) (now wa wb : ℕ) where
      first_alone : (manager_at n 0).rest.session ≡ None
      first_alone = none_of (manager_at n 0).rest.session ((orderly.linked 0).session ∙ first_free)

      second_alone : (manager_at n 1).rest.session ≡ None
      second_alone = none_of (manager_at n 1).rest.session ((orderly.linked 1).session ∙ second_free)

      four : (which : Which) → length (set_up (index_of which) (index_of (other which)) now
          (course_in (both_linked (index_of which) (index_of (other which)) wa wb n) [] [])).network.notes ≡ length n.notes + 4
      four Alpha = ap (λ (x : Network). length (set_up 0 1 now (course_in (both_linked 0 1 wa wb x) [] [])).network.notes) shape
          ∙ (sets_up Alpha (manager_at n 0) (manager_at n 1) n.connected now wa wb n.notes n.ledger know first_up second_up first_alone second_alone).notes
      four Beta = ap (λ (x : Network). length (set_up 1 0 now (course_in (both_linked 1 0 wa wb x) [] [])).network.notes) shape
          ∙ (sets_up Beta (manager_at n 1) (manager_at n 0) n.connected now wa wb n.notes n.ledger (record { first = know.second; second = know.first })
          second_up first_up second_alone first_alone).notes

      connecting_told : (which : Which) → IsTold (connecting (index_of which) (index_of (other which)) now wa wb (course_from n)).reply
      connecting_told which = (
        reply.Connected (numbers_behind (length n.notes) 4),
        ap (λ (k : ℕ). told (network.Connected (numbers_behind (length n.notes) (k - length n.notes)))) (four which)
            ∙ ap (λ (k : ℕ). told (network.Connected (numbers_behind (length n.notes) k))) more,
      )
        where
          more : length n.notes + 4 - length n.notes ≡ 4
          more = omega arith

  -- the two, in either order
  are_up : (which : Which) → any_down n (index_of which) (index_of (other which)) ≡ false → (is_down (manager_at n 0) ≡ false) × (is_down (manager_at n 1) ≡ false)
  are_up Alpha up = neither (is_down (manager_at n 0)) (is_down (manager_at n 1)) up
  are_up Beta up = let p = neither (is_down (manager_at n 1)) (is_down (manager_at n 0)) up in (p.1, p.0)

  are_free : (which : Which) → any_connected n (index_of which) (index_of (other which)) ≡ false → (is_connected n 0 ≡ false) × (is_connected n 1 ≡ false)
  are_free Alpha free = neither (is_connected n 0) (is_connected n 1) free
  are_free Beta free = let p = neither (is_connected n 1) (is_connected n 0) free in (p.1, p.0)

  told_of : (which : Which) (now wa wb : ℕ) → IsTold (connect (index_of which) (index_of (other which)) now wa wb (course_from n)).reply
  told_of which now wa wb = at (any_down n a b) (any_connected n a b) refl refl
    where
      a : ℕ
      a = index_of which

      b : ℕ
      b = index_of (other which)

      at : (down linked : Bool) → any_down n a b ≡ down → any_connected n a b ≡ linked → IsTold (if down then only (course_from n) network.NotUp
          else if linked then only (course_from n) network.Linked
          else connecting a b now wa wb (course_from n)).reply
      at true linked down_is linked_is = (reply.Down, refl)
      at false true down_is linked_is = (reply.Linked, refl)
      at false false down_is linked_is = let up = are_up which down_is in let free = are_free which linked_is in
          connecting_told free.0 free.1 up.0 up.1 now wa wb which

  pub connect_told : (i j : ℕ) → AreEnds Pair i j → (now wa wb : ℕ) → IsTold (connect i j now wa wb (course_from n)).reply
  connect_told zero zero ends now wa wb = absurd (ends.2 refl)
  connect_told zero (suc zero) ends now wa wb = told_of Alpha now wa wb
  connect_told (suc zero) zero ends now wa wb = told_of Beta now wa wb
  connect_told (suc zero) (suc zero) ends now wa wb = absurd (ends.2 refl)
  connect_told (suc (suc i)) j ends now wa wb = absurd (let small = ends.0 in omega (arith, small))
  connect_told i (suc (suc j)) ends now wa wb = absurd (let small = ends.1 in omega (arith, small))
