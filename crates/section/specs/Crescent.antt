-- The section modulus of a log that rots from above only, in tenths of a cm³. Document 02, request 1/13: "Add section code 5: s1 diameter, s2
-- depth 0..60, s3 tiers 1..3 counted as in code 1, for kinds 1 and 2."
use Rattle.std.specs.Prelude.{ℕ, ◌+◌, ◌-◌, ◌*◌, ◌≤◌, min, List, [], ◌∷◌, eqb, get_or}
use Rattle.section.specs.Choose.{choose}
use Rattle.section.specs.Log.{log_modulus}

-- a row of the printed table: the diameter, and W by depth from 1 to the last that is printed
pub record Row : Type 0 where
  pub diameter : ℕ
  pub printed : List ℕ

infix 68 ◌∥◌
abbrev pub ◌∥◌ : ℕ → List ℕ → Row
diameter ∥ printed = record { diameter = diameter; printed = printed }

-- a row that is printed in whole cm³, turned into tenths
abbrev pub in_whole : List ℕ → List ℕ
in_whole [] = []
in_whole (w ∷ ws) = 10 * w ∷ in_whole ws

-- "W comes from appendix 3 of source document 003, in tenths of a cm³": its lines W, as printed
unfoldable pub crescent_table : List Row
crescent_table =
    14 ∥ (2255 ∷ 1859 ∷ 1499 ∷ 1196 ∷ 925 ∷ 694 ∷ 500 ∷ []) ∷
    15 ∥ (2808 ∷ 2348 ∷ 1939 ∷ 1568 ∷ 1243 ∷ 962 ∷ 720 ∷ []) ∷
    16 ∥ in_whole (345 ∷ 292 ∷ 244 ∷ 201 ∷ 163 ∷ 129 ∷ 100 ∷ 75 ∷ []) ∷
    17 ∥ in_whole (420 ∷ 357 ∷ 302 ∷ 253 ∷ 208 ∷ 168 ∷ 133 ∷ 103 ∷ []) ∷
    18 ∥ in_whole (499 ∷ 431 ∷ 369 ∷ 312 ∷ 261 ∷ 215 ∷ 174 ∷ 138 ∷ 105 ∷ []) ∷
    19 ∥ in_whole (592 ∷ 516 ∷ 445 ∷ 381 ∷ 322 ∷ 269 ∷ 222 ∷ 179 ∷ 142 ∷ []) ∷
    20 ∥ in_whole (694 ∷ 610 ∷ 531 ∷ 459 ∷ 392 ∷ 332 ∷ 277 ∷ 227 ∷ 184 ∷ 146 ∷ []) ∷
    21 ∥ in_whole (809 ∷ 715 ∷ 628 ∷ 547 ∷ 472 ∷ 404 ∷ 341 ∷ 285 ∷ 234 ∷ 189 ∷ []) ∷
    22 ∥ in_whole (935 ∷ 832 ∷ 735 ∷ 645 ∷ 562 ∷ 485 ∷ 414 ∷ 350 ∷ 292 ∷ 240 ∷ 194 ∷ []) ∷
    23 ∥ in_whole (1074 ∷ 960 ∷ 854 ∷ 754 ∷ 662 ∷ 576 ∷ 497 ∷ 425 ∷ 359 ∷ 300 ∷ 246 ∷ []) ∷
    24 ∥ in_whole (1225 ∷ 1101 ∷ 985 ∷ 875 ∷ 773 ∷ 678 ∷ 590 ∷ 509 ∷ 435 ∷ 368 ∷ 307 ∷ 252 ∷ []) ∷
    25 ∥ in_whole (1391 ∷ 1256 ∷ 1128 ∷ 1008 ∷ 896 ∷ 791 ∷ 694 ∷ 604 ∷ 521 ∷ 445 ∷ 376 ∷ 314 ∷ []) ∷
    26 ∥ in_whole (1571 ∷ 1424 ∷ 1285 ∷ 1155 ∷ 1032 ∷ 917 ∷ 810 ∷ 710 ∷ 618 ∷ 533 ∷ 455 ∷ 384 ∷ 320 ∷ []) ∷
    27 ∥ in_whole (1765 ∷ 1606 ∷ 1456 ∷ 1314 ∷ 1180 ∷ 1054 ∷ 937 ∷ 827 ∷ 725 ∷ 631 ∷ 544 ∷ 464 ∷ 392 ∷ []) ∷
    28 ∥ in_whole (1975 ∷ 1804 ∷ 1642 ∷ 1488 ∷ 1342 ∷ 1201 ∷ 1077 ∷ 957 ∷ 843 ∷ 740 ∷ 644 ∷ 555 ∷ 474 ∷ 400 ∷ []) ∷
    29 ∥ in_whole (2201 ∷ 2017 ∷ 1842 ∷ 1676 ∷ 1518 ∷ 1370 ∷ 1230 ∷ 1099 ∷ 976 ∷ 861 ∷ 755 ∷ 656 ∷ 566 ∷ 483 ∷ []) ∷
    30 ∥ in_whole (2444 ∷ 2246 ∷ 2058 ∷ 1879 ∷ 1709 ∷ 1549 ∷ 1397 ∷ 1254 ∷ 1120 ∷ 995 ∷ 878 ∷ 769 ∷ 669 ∷ 577 ∷ 492 ∷ []) ∷
    31 ∥ in_whole (2704 ∷ 2492 ∷ 2290 ∷ 2098 ∷ 1916 ∷ 1742 ∷ 1578 ∷ 1423 ∷ 1278 ∷ 1141 ∷ 1013 ∷ 894 ∷ 783 ∷ 681 ∷ 587 ∷ []) ∷
    32 ∥ in_whole (2981 ∷ 2755 ∷ 2540 ∷ 2334 ∷ 2138 ∷ 1951 ∷ 1775 ∷ 1607 ∷ 1450 ∷ 1292 ∷ 1162 ∷ 1031 ∷ 910 ∷ 797 ∷ 693 ∷ 597 ∷ []) ∷
    33 ∥ in_whole (3277 ∷ 3037 ∷ 2806 ∷ 2586 ∷ 2376 ∷ 2176 ∷ 1986 ∷ 1806 ∷ 1636 ∷ 1475 ∷ 1324 ∷ 1182 ∷ 1049 ∷ 926 ∷ 811 ∷ 705 ∷ []) ∷
    34 ∥ in_whole (3595 ∷ 3336 ∷ 3091 ∷ 2856 ∷ 2632 ∷ 2418 ∷ 2214 ∷ 2021 ∷ 1838 ∷ 1664 ∷ 1500 ∷ 1346 ∷ 1202 ∷ 1067 ∷ 941 ∷ 824 ∷ 717 ∷ []) ∷
    35 ∥ in_whole (3927 ∷ 3655 ∷ 3394 ∷ 3145 ∷ 2954 ∷ 2677 ∷ 2459 ∷ 2252 ∷ 2055 ∷ 1868 ∷ 1692 ∷ 1525 ∷ 1368 ∷ 1221 ∷ 1084 ∷ 956 ∷ 838 ∷ []) ∷
    36 ∥ in_whole (4281 ∷ 3994 ∷ 3717 ∷ 3451 ∷ 3197 ∷ 2954 ∷ 2721 ∷ 2499 ∷ 2289 ∷ 2088 ∷ 1898 ∷ 1719 ∷ 1549 ∷ 1390 ∷ 1241 ∷ 1101 ∷ 941 ∷ []) ∷
    []

-- the row of a diameter, empty where there is none
abbrev pub row_of : (diameter : ℕ) → List Row → List ℕ
row_of diameter [] = []
row_of diameter (r ∷ rs) = choose (eqb diameter r.diameter) r.printed (row_of diameter rs)

-- "From left to right, where a printed W is above the one that stands to its left, the left one stands."
abbrev pub standing : (left : ℕ) → List ℕ → List ℕ
standing left [] = []
standing left (w ∷ ws) = min left w ∷ standing (min left w) ws

-- "Depth 0 takes the sound W of document 01. .. For depth 1 the sound W is the left one."
unfoldable pub crescent_row : (diameter : ℕ) → List ℕ
crescent_row diameter =
    let sound = 10 * log_modulus diameter in
    sound ∷ standing sound (row_of diameter crescent_table)

-- "a depth past a row's end has W = 0"
unfoldable pub crescent_modulus : (diameter depth : ℕ) → ℕ
crescent_modulus diameter depth = get_or (crescent_row diameter) depth 0

-- "tiers 1..3 counted as in code 1": the top log has the crescent, the others are sound
unfoldable pub tiered_crescent : (diameter depth tiers : ℕ) → ℕ
tiered_crescent diameter depth tiers = crescent_modulus diameter depth + (tiers - 1) * (10 * log_modulus diameter)

-- "That rows never rise is shown by a single check over the table."
abbrev pub NeverRises : Type 0
NeverRises = (diameter depth depth' : ℕ) → depth ≤ depth' → crescent_modulus diameter depth' ≤ crescent_modulus diameter depth
