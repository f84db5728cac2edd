-- How often the clock was asked, one connection behind another.
use Rattle.std.proofs.Common.{◌≡◌, ◌+◌, ◌≤◌, ℕ, List, [], ◌∷◌, ◌++◌, length, Option, Some, None, sym, subst, arith, length-append}
use Rattle.std.specs.Option.{option_map}
use Rattle.std.specs.Prelude.{IfSome}
use Rattle.mqb_outside.specs.Disk.{Counted}
use Rattle.mqb_outside.specs.Net.{Ended}
use Rattle.mqb_connections.specs.Asked.{AsksForEach, RoseBy}

-- a count that stays
pub rose_none : (a : ℕ) → RoseBy 0 a a
rose_none a = omega arith

-- one call
pub rose_once : (a b : ℕ) → Counted 1 a b → RoseBy 1 a b
rose_once a b once = omega (arith, once.later, once.sum)

pub rose_then : (n m a b c : ℕ) → RoseBy n a b → RoseBy m b c → RoseBy (n + m) a c
rose_then n m a b c first second = omega (arith, first, second)

-- the net tells so many more
abbrev pub TellsMore : (more : ℕ) → (ended ended_now : Option (List Ended)) → Type 0
TellsMore more ended ended_now = IfSome ended (λ before. IfSome ended_now (λ after. length after ≡ length before + more))

tells_same : (ended : Option (List Ended)) → TellsMore 0 ended ended
tells_same None = tt
tells_same (Some before) = omega arith

tells_none : (ended ended_now : Option (List Ended)) → ended_now ≡ ended → TellsMore 0 ended ended_now
tells_none ended ended_now same = subst (λ (k : Option (List Ended)). TellsMore 0 ended k) (sym same) (tells_same ended)

tells_then : (n m : ℕ) (ended ended_mid ended_now : Option (List Ended)) (more : List Ended) → ended_mid ≡ option_map (λ items. items ++ more) ended
    → TellsMore n ended ended_mid → TellsMore m ended_mid ended_now → TellsMore (n + m) ended ended_now
tells_then n m None ended_mid ended_now more is first second = tt
tells_then n m (Some before) None ended_now more is first second = absurd (let none : ⊥ = cc in none)
tells_then n m (Some before) (Some mid) None more is first second = tt
tells_then n m (Some before) (Some mid) (Some after) more is first second = omega (arith, first, second)

-- none was served
pub asks_none : (count : ℕ) (ended ended_now : Option (List Ended)) (asked asked_now : ℕ) → ended_now ≡ ended → asked_now ≡ asked
    → AsksForEach count ended ended_now asked asked_now
asks_none count ended ended_now asked asked_now same still = record {
  served = 0;
  most = omega arith;
  counted = omega (arith, still);
  finished = tells_none ended ended_now same;
}

-- one was served
tells_one : (ended : Option (List Ended)) (one : Ended) → TellsMore 1 ended (option_map (λ items. items ++ one ∷ []) ended)
tells_one None one = tt
tells_one (Some before) one = length-append before (one ∷ [])

pub asks_one : (ended ended_now : Option (List Ended)) (one : Ended) (asked asked_now : ℕ) → ended_now ≡ option_map (λ items. items ++ one ∷ []) ended
    → RoseBy 1 asked asked_now → AsksForEach 1 ended ended_now asked asked_now
asks_one ended ended_now one asked asked_now is rose = record {
  served = 1;
  most = omega arith;
  counted = rose;
  finished = subst (λ (k : Option (List Ended)). TellsMore 1 ended k) (sym is) (tells_one ended one);
}

-- those behind others
pub asks_then : {k count total : ℕ} {ended ended_mid ended_now : Option (List Ended)} {asked asked_mid asked_now : ℕ} (more : List Ended)
    → k + count ≤ total → ended_mid ≡ option_map (λ items. items ++ more) ended → AsksForEach k ended ended_mid asked asked_mid
    → AsksForEach count ended_mid ended_now asked_mid asked_now → AsksForEach total ended ended_now asked asked_now
asks_then {k} {count} {total} {ended} {ended_mid} {ended_now} {asked} {asked_mid} {asked_now} more within is first second = record {
  served = first.served + second.served;
  most = omega (arith, first.most, second.most);
  counted = rose_then first.served second.served asked asked_mid asked_now first.counted second.counted;
  finished = tells_then first.served second.served ended ended_mid ended_now more is first.finished second.finished;
}

-- it was waited for a peer
pub asks_wait : {count : ℕ} {ended ended_mid ended_now : Option (List Ended)} {asked asked_now : ℕ} → ended_now ≡ ended_mid
    → AsksForEach count ended ended_mid asked asked_now → AsksForEach count ended ended_now asked asked_now
asks_wait {count} {ended} {ended_mid} {ended_now} {asked} {asked_now} same asks =
    subst (λ (o : Option (List Ended)). AsksForEach count ended o asked asked_now) (sym same) asks
