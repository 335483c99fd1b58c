-- Wear and heavier axles: a member's permitted load never rises, where the rot of closely spaced stringers stays, and the vehicle load on it
-- never falls, so no verdict turns from refuse to pass. The figure of matched members never rises, since the member that has it is matched with one that permits no more.
-- Assumes nothing.
use Prim.Native.Nat.{ℕ, zero, suc, ◌≤◌, ◌<◌}
use mathlib.Core.Path.{◌≡◌, refl}
use mathlib.Core.Bool.{Bool, true, false, false≢true, and-eq-true_iff}
use mathlib.Core.List.{List, [], ◌∷◌}
use native.Mathlib.Omega.{arith}
use lib.ListN.{length}
use borrow.Author.Tests.{leb-true, le-leb}
use Rattle.influence.proofs.Load.{load_grows}
use Rattle.member.specs.Fields.{SPAN, DISTANCE}
use Rattle.member.specs.Format.{AllowedMember}
use Rattle.rating.specs.Compare.{Heavier, Matching, SpreadsKept, SamePlaces}
use Rattle.member.specs.Wear.{rot_fields, lost_fields, rots, wears, Worn, SpreadKept}
use Rattle.rating.specs.VehicleLoad.{vehicle_load_on}
use Rattle.rating.specs.Judgement.{verdict_of, permitted_for, passes, every_passes, figure, rating_of, judgement_of}
use Rattle.rating.specs.Surveyed.{member_at, AllowedMembers}
use Rattle.member.specs.declared.record.Member.{Member}
use Rattle.member.specs.declared.record.Vehicle.{Vehicle}
use Rattle.rating.specs.declared.judging.Verdict.TheVariants.{Refuse}
use Rattle.member.proofs.Falling.{same, same_kind, permitted_load_falls}
use Rattle.rating.proofs.Lines.{line_sized}
use Rattle.rating.proofs.Least.{orders_ℕ, least_below, least_had}

pub stays_refused : (b b' : Bool) → (b' ≡ true → b ≡ true) → verdict_of b ≡ Refuse → verdict_of b' ≡ Refuse
stays_refused true true f e = e
stays_refused true false f e = refl
stays_refused false true f e = absurd (false≢true (f refl))
stays_refused false false f e = refl

-- "The bridge passes when every member does."
pub every_passes_lem : (v : Vehicle) (ms : List Member) → every_passes v ms ≡ true → (i : ℕ) → i < length ms → passes v (member_at ms i) ≡ true
unfolding every_passes
every_passes_lem v [] e i l = absurd (omega arith)
every_passes_lem v (m ∷ ms) e zero l = ((and-eq-true_iff (passes v m) _).0 e).0
every_passes_lem v (m ∷ ms) e (suc i) l = every_passes_lem v ms ((and-eq-true_iff (passes v m) _).0 e).1 i (omega arith)

pub passes_when_every : (v : Vehicle) (ms : List Member) → ((i : ℕ) → i < length ms → passes v (member_at ms i) ≡ true) → every_passes v ms ≡ true
unfolding every_passes
passes_when_every v [] h = refl
passes_when_every v (m ∷ ms) h =
    (and-eq-true_iff (passes v m) _).1 (h 0 (omega arith), passes_when_every v ms (λ i l. h (suc i) (omega arith)))

-- two vehicles: what the second is let over the first is
module _ (v v' : Vehicle) where
  -- a member that passes with as much on it or more, and as much permitted or less
  pub passes_with_less : (m m' : Member) → vehicle_load_on m v ≤ vehicle_load_on m' v' → permitted_for v' m' ≤ permitted_for v m → passes v' m' ≡ true → passes v m ≡ true
  unfolding passes
  passes_with_less m m' load permitted e = le-leb (vehicle_load_on m v) (permitted_for v m) (omega (arith, leb-true (vehicle_load_on m' v') (permitted_for v' m') e, load, permitted))

  -- of members that are matched: where each passes whose partner does, the bridge stays refused
  pub all_stay_refused : (ms ms' : List Member) (partner : ℕ → ℕ) → ((i : ℕ) → i < length ms → partner i < length ms') →
      ((i : ℕ) → i < length ms → passes v' (member_at ms' (partner i)) ≡ true → passes v (member_at ms i) ≡ true) →
      (judgement_of ms v).verdict ≡ Refuse → (judgement_of ms' v').verdict ≡ Refuse
  unfolding judgement_of
  all_stay_refused ms ms' partner inside before =
      stays_refused (every_passes v ms) (every_passes v' ms')
      (λ e. passes_when_every v ms (λ i l. before i l (every_passes_lem v' ms' e (partner i) (inside i l))))

module _ {v v' : Vehicle} (hv : Heavier v v') where
  module _ {m m' : Member} (a : AllowedMember m) (a' : AllowedMember m') (w : Worn m m') where
    -- the vehicle load on a member never falls: base and apex are alike
    pub vehicle_load_rises : vehicle_load_on m v ≤ vehicle_load_on m' v'
    unfolding vehicle_load_on wears rots rot_fields lost_fields
    vehicle_load_rises =
        rw (← (same_kind a a' w), ← (same a a' w SPAN refl (omega arith)), ← (same a a' w DISTANCE refl (omega arith)))
        (load_grows v.weights v.distances v'.weights v'.distances (line_sized a).triangle hv.axles hv.weights hv.distances)

    module _ (k : SpreadKept m m') where
      pub permitted_falls : permitted_for v' m' ≤ permitted_for v m
      permitted_falls = rw (← hv.class, ← hv.track) (permitted_load_falls a a' w v.class v.track.0 k)

      passed_before : passes v' m' ≡ true → passes v m ≡ true
      passed_before = passes_with_less v v' m m' vehicle_load_rises permitted_falls

      -- no member's verdict turns from refuse to pass
      pub member_stays_refused : (rating_of m v).verdict ≡ Refuse → (rating_of m' v').verdict ≡ Refuse
      unfolding rating_of
      member_stays_refused = stays_refused (passes v m) (passes v' m') passed_before

  module _ {ms ms' : List Member} (a : AllowedMembers ms) (a' : AllowedMembers ms') (t : Matching ms ms') (k : SpreadsKept ms ms' t.partner) where
    -- the figure never rises
    pub figure_falls : 1 ≤ length ms → (judgement_of ms' v').figure.0 ≤ (judgement_of ms v).figure.0
    unfolding judgement_of
    figure_falls l =
        let h = least_had orders_ℕ 0 (permitted_for v) ms l in
        let i = h.0 in
        let inside = t.inside i h.1 in
        omega (arith, h.2, leb-true (figure v' ms') (permitted_for v' (member_at ms' (t.partner i))) (least_below orders_ℕ 0 (permitted_for v') ms' (t.partner i) inside), permitted_falls (a i h.1) (a' (t.partner i) inside) (t.worn i h.1) (k i h.1))

    -- no bridge's verdict turns from refuse to pass
    pub bridge_stays_refused : (judgement_of ms v).verdict ≡ Refuse → (judgement_of ms' v').verdict ≡ Refuse
    bridge_stays_refused =
        all_stay_refused v v' ms ms' t.partner t.inside (λ i l. passed_before (a i l) (a' (t.partner i) (t.inside i l)) (t.worn i l) (k i l))

-- the same place in both, members added at the end
unfoldable pub same_places : {ms ms' : List Member} → SamePlaces ms ms' → Matching ms ms'
same_places p =
    record { partner = λ i. i; inside = λ i l. omega (arith, p.longer); one_to_one = λ i k l h e. e; worn = p.worn }
