-- Laws of `first_fault` over the list of a file's faults by place. While none was met the list from the next place on is left;
-- the first number that is not 0 is the answer, with its place.
use Prim.Native.Nat.{ℕ, zero, suc, ◌+◌, ◌-◌, ◌≤◌, ◌<◌}
use mathlib.Core.Path.{◌≡◌, refl, ap, sym, ◌∙◌}
use mathlib.Core.List.{List, [], ◌∷◌, ◌++◌}
use mathlib.Core.Bool.{Bool, true, false}
use mathlib.Core.Logic.{◌⊎◌, inl, inr}
use native.Mathlib.Numerals.{add-one}
use native.Mathlib.Nat.{add-zero}
use native.Mathlib.Decide.{ℕ_discrete}
use native.Mathlib.Omega.{arith}
use lib.ListN.{length, get_or}
use lib.Dec.{eqb}
use borrow.Author.Tests.{eqb-true, eqb-false, eq-eqb, ne_eqb}
use Rattle.section.specs.Choose.{choose}
use Rattle.files.specs.Words.{each}
use Rattle.files.specs.Fault.{fault_number, fault_of}
use Rattle.files.specs.declared.fault.Fault.{Fault}
use Rattle.files.specs.declared.fault.Fault.TheVariants.{Length, Mark, Count, Kind, Species, Section, Range, Unused, NoSurvey, NoVehicle, NoPlace, NoRoom, Order, Sequence, Weight, Disagreement, Apart, Gauge}
use Rattle.files.specs.Reading.{◌unless◌, first_fault, or_else, test, taken, number_of, place_of}
use Rattle.files.specs.declared.Refusal.{Refusal}
use Rattle.files.specs.Reading.{Reading}
use Rattle.std.specs.Prelude.{Result, Ok, Err, ⊤}
use Rattle.files.proofs.Each.{each_split, length_each, getD_each}
use Rattle.files.proofs.Tests.{passed, refutes}

-- the answer for a fault at a place
abbrev pub refusal : (number place : ℕ) → Reading
refusal number place = Err (record { number = number; place = place })

pub refused_not : (number place : ℕ) → refusal number place ≡ (Ok tt) → ⊥
refused_not number place e = let z : ◌≡◌ {A = ℕ} 0 1 = cc in omega arith

-- an answer is one of the two
pub reading_case : (a : Reading) (P : Reading → Type 0) → (a ≡ (Ok tt) → P (Ok tt)) → ((r : Refusal) → a ≡ Err r → P (Err r)) → P a
reading_case (Ok tt) P t f = t refl
reading_case (Err r) P t f = f r refl

-- of two answers, one after the other: both take, or the first that refuses decides
pub both_taken : (a b : Reading) → or_else a b ≡ (Ok tt) → (a ≡ (Ok tt)) × (b ≡ (Ok tt))
both_taken (Ok tt) b e = (refl, e)
both_taken (Err r) b e = absurd (refused_not r.number r.place e)

pub one_refused : (a b : Reading) (r : Refusal) → or_else a b ≡ Err r → (a ≡ Err r) ⊎ ((a ≡ (Ok tt)) × (b ≡ Err r))
one_refused (Ok tt) b r e = inr (refl, e)
one_refused (Err q) b r e = inl e

-- a test, and a row of tests, that finds nothing
pub or_none : (a : Reading) → or_else a (Ok tt) ≡ a
or_none (Ok tt) = refl
or_none (Err r) = refl

pub test_holds : (number : ℕ) (holds : Bool) → test number holds ≡ (Ok tt) → holds ≡ true
test_holds number true e = refl
test_holds number false e = absurd (refused_not number 0 e)

-- a fault of the head is the answer; after a good head the rest decide
pub head_first : (place n head : ℕ) (rest : List ℕ) → head ≡ n → (n ≡ 0 → ⊥) → first_fault place (head ∷ rest) ≡ refusal n place
head_first place n head rest e h = rw (e, ne_eqb n 0 h)

pub head_clear : (place head : ℕ) (rest : List ℕ) → head ≡ 0 → first_fault place (head ∷ rest) ≡ first_fault (suc place) rest
head_clear place head rest e = rw e

-- where the first of a list have no fault, the rest decide
pub skip : (place : ℕ) (ns rest : List ℕ) → first_fault place ns ≡ (Ok tt) → first_fault place (ns ++ rest) ≡ first_fault (place + length ns) rest
skip place [] rest e = rw add-zero
skip place (n ∷ ns) rest e = go (eqb n 0) e (skip (suc place) ns rest)
  where
    go : (b : Bool) → choose b (first_fault (suc place) ns) (refusal n place) ≡ (Ok tt) → (first_fault (suc place) ns ≡ (Ok tt) → first_fault (suc place) (ns ++ rest) ≡ first_fault (suc place + length ns) rest) → choose b (first_fault (suc place) (ns ++ rest)) (refusal n place) ≡ first_fault (place + suc (length ns)) rest
    go true t more = let step : place + suc (length ns) ≡ suc place + length ns = omega arith in rw step (more t)
    go false t more = absurd (refused_not n place t)

module _ (fault : ℕ → ℕ) (place : ℕ) where
  -- one more without a fault
  pub clear_more : (i : ℕ) → first_fault place (each fault i) ≡ (Ok tt) → fault i ≡ 0 → first_fault place (each fault (i + 1)) ≡ (Ok tt)
  clear_more i e h = rw add-one (skip place (each fault i) (fault i ∷ []) e ∙ rw h)

  -- the first fault
  pub fault_at : (i n number : ℕ) → i < n → first_fault place (each fault i) ≡ (Ok tt) → fault i ≡ number → (number ≡ 0 → ⊥) → first_fault place (each fault n) ≡ refusal number (i + place)
  fault_at i n number l e at h =
      let split = each_split fault i n l in
      let there : place + i ≡ i + place = omega arith in
      rw (split.1, skip place (each fault i) (fault i ∷ split.0) e, length_each fault i, there, at, ne_eqb number 0 h)

-- a list is taken exactly when none of it is a fault
pub taken_none : (place : ℕ) (ns : List ℕ) → first_fault place ns ≡ (Ok tt) → (k : ℕ) → get_or ns k 0 ≡ 0
taken_none place [] e k = refl
taken_none place (n ∷ ns) e k = go (eqb n 0) refl e k (taken_none (suc place) ns)
  where
    go : (b : Bool) → eqb n 0 ≡ b → choose b (first_fault (suc place) ns) (refusal n place) ≡ (Ok tt) → (k : ℕ) → (first_fault (suc place) ns ≡ (Ok tt) → (j : ℕ) → get_or ns j 0 ≡ 0) → get_or (n ∷ ns) k 0 ≡ 0
    go true t f zero more = eqb-true n 0 t
    go true t f (suc k) more = more f k
    go false t f k more = absurd (refused_not n place f)

pub none_taken : (place : ℕ) (fault : ℕ → ℕ) (n : ℕ) → ((i : ℕ) → i < n → fault i ≡ 0) → first_fault place (each fault n) ≡ (Ok tt)
none_taken place fault zero h = refl
none_taken place fault (suc n) h =
    skip place (each fault n) (fault n ∷ []) (none_taken place fault n (λ i l. h i (omega arith))) ∙ rw (h n (omega arith))

-- what a refusal says of the list, whose first place is `place`
pub record FaultAt (place : ℕ) (ns : List ℕ) (r : Refusal) : Type 0 where
  pub from : place ≤ r.place
  pub below : r.place < place + length ns
  -- the number is the fault at the place, and no place before it has one
  pub number : get_or ns (r.place - place) 0 ≡ r.number
  pub fault : r.number ≡ 0 → ⊥
  pub first : (k : ℕ) → k < r.place - place → get_or ns k 0 ≡ 0

pub refused_at : (place : ℕ) (ns : List ℕ) (r : Refusal) → first_fault place ns ≡ Err r → FaultAt place ns r
refused_at place [] r e = absurd (refused_not r.number r.place (sym e))
refused_at place (n ∷ ns) r e = go (eqb n 0) refl e (refused_at (suc place) ns r)
  where
    go : (b : Bool) → eqb n 0 ≡ b → choose b (first_fault (suc place) ns) (refusal n place) ≡ Err r → (first_fault (suc place) ns ≡ Err r → FaultAt (suc place) ns r) → FaultAt place (n ∷ ns) r
    go true t f more = later (more f) (eqb-true n 0 t)
      where
        later : FaultAt (suc place) ns r → n ≡ 0 → FaultAt place (n ∷ ns) r
        later h z =
            let from = h.from in
            let step : r.place - place ≡ suc (r.place - suc place) = omega arith in
            record {
              from = omega arith;
              below = omega (arith, h.below);
              number = rw step h.number;
              fault = h.fault;
              first = λ k l. before k (rw step at l);
            }
          where
            before : (k : ℕ) → k < suc (r.place - suc place) → get_or (n ∷ ns) k 0 ≡ 0
            before zero l = z
            before (suc k) l = h.first k (omega arith)
    go false t f more =
        let number = ap number_of f in
        let there = ap place_of f in
        let none : r.place - place ≡ 0 = omega arith in
        record {
          from = omega arith;
          below = omega arith;
          number = rw none number;
          fault = λ z. eqb-false n 0 t (number ∙ z);
          first = λ k l. absurd (omega arith);
        }

-- a test of every index, with one number: all hold exactly where nothing is refused, and a refusal names the first that fails
module _ (number : ℕ) (some : 0 < number) (test : ℕ → Bool) where
  abbrev pub failing : ℕ → ℕ
  failing i = number unless test i

  pub all_hold : (n : ℕ) → first_fault 1 (each failing n) ≡ (Ok tt) → (i : ℕ) → i < n → test i ≡ true
  all_hold n e i l = passed number (test i) some (sym (getD_each failing n i 0 l) ∙ taken_none 1 (each failing n) e i)

  pub hold_all : (n : ℕ) → ((i : ℕ) → i < n → test i ≡ true) → first_fault 1 (each failing n) ≡ (Ok tt)
  hold_all n h = none_taken 1 failing n (λ i l. ap (λ (b : Bool). number unless b) (h i l))

  pub first_failing : (i n : ℕ) → i < n → ((k : ℕ) → k < i → test k ≡ true) → test i ≡ false → first_fault 1 (each failing n) ≡ refusal number (i + 1)
  first_failing i n l before f = fault_at failing 1 i n number l (hold_all i before) (ap (λ (b : Bool). number unless b) f) (omega arith)

  pub failing_named : (n : ℕ) (r : Refusal) → first_fault 1 (each failing n) ≡ Err r → (i : ℕ) × (i < n) × ((k : ℕ) → k < i → test k ≡ true) × (test i ≡ false)
  failing_named n r e =
      let at = refused_at 1 (each failing n) r e in
      let i : ℕ = r.place - 1 in
      let inside : i < n = omega (arith, at.below, at.from, length_each failing n) in
      let before : (k : ℕ) → k < i → test k ≡ true = λ k l. passed number (test k) some (sym (getD_each failing n k 0 (omega arith)) ∙ at.first k l) in
      let fault : failing i ≡ 0 → ⊥ = λ z. at.fault (sym at.number ∙ getD_each failing n i 0 inside ∙ z) in
      (i, inside, before, refutes {P = failing i ≡ 0} (test i) (λ h. ap (λ (b : Bool). number unless b) h) fault)

-- two counts are compared before the records: where they differ that is the answer, at place 0
module _ (number : ℕ) (some : 0 < number) (n n' : ℕ) (faults : List ℕ) where
  abbrev counts_first : Reading
  counts_first = first_fault 0 (number unless eqb n n' ∷ faults)

  pub counts_differ : ¬ (n ≡ n') → counts_first ≡ refusal number 0
  counts_differ d = rw (ne_eqb n n' d, ne_eqb number 0 (omega arith))

  pub counts_alike : n ≡ n' → counts_first ≡ first_fault 1 faults
  counts_alike e = rw (eq-eqb n n' e)

  pub counts_same : counts_first ≡ (Ok tt) → n ≡ n'
  counts_same e =
      elim (ℕ_discrete n n') [
        | yes same ↦ same
        | no other ↦ absurd (refused_not number 0 (sym (counts_differ other) ∙ e))
      ]

-- no fault has the number 0
pub some_fault : (fault : Fault) → fault_number fault ≡ 0 → ⊥
some_fault Length e = omega arith
some_fault Mark e = omega arith
some_fault Count e = omega arith
some_fault Kind e = omega arith
some_fault Species e = omega arith
some_fault Section e = omega arith
some_fault Range e = omega arith
some_fault Unused e = omega arith
some_fault NoSurvey e = omega arith
some_fault NoVehicle e = omega arith
some_fault NoPlace e = omega arith
some_fault NoRoom e = omega arith
some_fault Order e = omega arith
some_fault Sequence e = omega arith
some_fault Weight e = omega arith
some_fault Disagreement e = omega arith
some_fault Apart e = omega arith
some_fault Gauge e = omega arith

-- what has a fault has its number, and what has none has 0
pub fault_clear : {a : Result ⊤ Fault} {n : ℕ} → a ≡ Ok tt → fault_of a ≡ n → n ≡ 0
fault_clear e h = sym h ∙ ap fault_of e

pub fault_found : {a : Result ⊤ Fault} {n : ℕ} (fault : Fault) → a ≡ Err fault → fault_of a ≡ n → n ≡ fault_number fault
fault_found fault e h = sym h ∙ ap fault_of e

-- what is taken was read, and what was refused is refused
pub taken_ok : {A : Type 0} (a : Reading) (x y : A) → taken a x ≡ Ok y → (a ≡ Ok tt) × (x ≡ y)
taken_ok (Ok tt) x y e = (refl, cc e)
taken_ok (Err r) x y e = cc e

pub taken_err : {A : Type 0} (a : Reading) (x : A) (r : Refusal) → taken a x ≡ Err r → a ≡ Err r
taken_err (Ok tt) x r e = cc e
taken_err (Err q) x r e = cc e
