-- The net section of logs. Document 01, 'Net section': "Rot of a log counts all round: net diameter = D − 2 × rot."
use Rattle.std.specs.Prelude.{ℕ, ◌+◌, ◌-◌, ◌*◌, List, [], ◌∷◌, leb, get_or}
use Rattle.section.specs.Choose.{choose}

unfoldable pub net_diameter : (diameter rot : ℕ) → ℕ
net_diameter diameter rot = diameter - 2 * rot

-- "W of a log by net diameter 13 to 39, in cm³"
unfoldable pub log_table : List ℕ
log_table =
    216 ∷ 269 ∷ 331 ∷ 402 ∷ 482 ∷ 573 ∷ 673 ∷ 785 ∷ 909 ∷ 1045 ∷ 1194 ∷ 1357 ∷ 1534 ∷ 1726 ∷ 1932 ∷ 2155 ∷ 2394 ∷ 2651 ∷ 2925 ∷
    3217 ∷ 3528 ∷ 3859 ∷ 4209 ∷ 4580 ∷ 4973 ∷ 5387 ∷ 5824 ∷ []

-- "A net diameter below 13 has W = 0."
unfoldable pub log_modulus : (net : ℕ) → ℕ
log_modulus net = choose (leb 13 net) (get_or log_table (net - 13) 0) 0

-- "Tiers: the top log is decayed, the others sound, and W is the sum."
unfoldable pub tiered_modulus : (diameter rot tiers : ℕ) → ℕ
tiered_modulus diameter rot tiers = log_modulus (net_diameter diameter rot) + (tiers - 1) * log_modulus diameter
