-- What `judge` leaves in the list, entry by entry: each member's two loads as `rate` gives them, and beyond them what was there.
-- Assumes nothing.
use Prim.Native.Nat.{ℕ, zero, suc, ◌+◌, ◌*◌, ◌<◌}
use mathlib.Core.Path.{◌≡◌, refl, ◌∙◌}
use mathlib.Core.List.{List, [], ◌∷◌}
use native.Mathlib.Omega.{arith}
use lib.ListN.{length, drop, get_or, get_or-append}
use lib.Seq.{get_or-append-add, get_or-drop}
use Rattle.rating.specs.Judgement.{permitted_for, loads, written, rating_of}
use Rattle.rating.specs.VehicleLoad.{vehicle_load_on}
use Rattle.rating.specs.Surveyed.{member_at}
use Rattle.member.specs.declared.record.Member.{Member}
use Rattle.member.specs.declared.record.Vehicle.{Vehicle}
use Rattle.rating.proofs.Turns.{loads_length}

module _ (v : Vehicle) where
  loads_at :
      (ms : List Member) (i : ℕ) → i < length ms →
      (get_or (loads v ms) (2 * i) 0 ≡ permitted_for v (member_at ms i)) × (get_or (loads v ms) (2 * i + 1) 0 ≡ vehicle_load_on (member_at ms i) v)
  unfolding loads
  loads_at [] i l = absurd (omega arith)
  loads_at (m ∷ ms) zero l = (refl, refl)
  loads_at (m ∷ ms) (suc i) l =
      let even : 2 * suc i ≡ suc (suc (2 * i)) = omega arith in
      let odd : 2 * suc i + 1 ≡ suc (suc (2 * i + 1)) = omega arith in
      let h = loads_at ms i (omega arith) in
      (rw even h.0, rw odd h.1)

  module _ (ms : List Member) (list : List ℕ) where
    in_loads : (k : ℕ) → k < 2 * length ms → get_or (written v ms list) k 0 ≡ get_or (loads v ms) k 0
    unfolding written
    in_loads k l = get_or-append (loads v ms) (drop (2 * length ms) list) 0 k (omega (arith, loads_length v ms))

    pub written_loads :
        (i : ℕ) → i < length ms →
        (get_or (written v ms list) (2 * i) 0 ≡ (rating_of (member_at ms i) v).permitted.0) ×
        (get_or (written v ms list) (2 * i + 1) 0 ≡ (rating_of (member_at ms i) v).load.0)
    unfolding rating_of
    written_loads i l =
        let h = loads_at ms i l in
        (in_loads (2 * i) (omega arith) ∙ h.0, in_loads (2 * i + 1) (omega arith) ∙ h.1)

    pub written_beyond : (n : ℕ) → get_or (written v ms list) (2 * length ms + n) 0 ≡ get_or list (2 * length ms + n) 0
    unfolding written
    written_beyond n =
        rw (← (loads_length v ms)) (get_or-append-add (loads v ms) (drop (length (loads v ms)) list) n 0 ∙ get_or-drop (length (loads v ms)) list n 0)
