-- The theorems of levelling. Each stands on the contract of a function of src/, of the same name.
use Rattle.std.specs.Prelude.{◌≡◌, ℕ, ◌+◌, ◌-◌, ◌*◌, ◌<◌, ◌≤◌, true, ◌&&◌, ◌||◌, ◌≢◌, ◌↔◌}
use Rattle.levelling.specs.Sums.{Group, only, Alike, sum_to, size, OneMore, OneMoved}
use Rattle.levelling.specs.Halls.{Hall, pumps, Placing, Placement, height, SamePumps, Widened, Framed}
use Rattle.levelling.specs.Groups.{confined, placed_on, Tight, SmallestTight, Closed, ReachedBackwards, density, a_rig, NoDenser}
use Rattle.levelling.specs.Levels.{LevelBut, Level, Cut, excess, turns_waited, Convex, Greatest, Bottleneck, Agree, SameInBoth, Lowest, Highest}
use Rattle.levelling.specs.Changes.{OnePumpMore, DonorOf, DonorTo, CanAndAlways, LeftOut, LetIn}

-- ---- groups

abbrev pub ConfinedPumpsAreNeverMoreThanPlaced : Type 0
ConfinedPumpsAreNeverMoreThanPlaced =
    (C R : ℕ) (H : Hall C R) (x : Placing) → Placement H x → (G : Group) → confined H G ≤ placed_on R (height C x) G

abbrev pub AGroupIsTightExactlyWhenClosed : Type 0
AGroupIsTightExactlyWhenClosed =
    (C R : ℕ) (H : Hall C R) (x : Placing) → Placement H x → (G : Group) → Tight H (height C x) G ↔ Closed H x G

abbrev pub TheCommonPartAndUnionOfTightGroupsAreTight : Type 0
TheCommonPartAndUnionOfTightGroupsAreTight =
    (C R : ℕ) (H : Hall C R) (x : Placing) → Placement H x →
    (F G : Group) → Tight H (height C x) F → Tight H (height C x) G →
    Tight H (height C x) (λ r. F r && G r) × Tight H (height C x) (λ r. F r || G r)

-- There is one, and any two are the same.
abbrev pub AnyRigsHaveOneSmallestTightGroup : Type 0
AnyRigsHaveOneSmallestTightGroup =
    (C R : ℕ) (H : Hall C R) (x : Placing) → Placement H x → (S : Group) →
    ((G : Group) × SmallestTight H (height C x) S G) ×
    ((F G : Group) → SmallestTight H (height C x) S F → SmallestTight H (height C x) S G → Alike R F G)

-- So the smallest tight groups and being level do too. Usable sets count only of the classes that stand.
abbrev pub TightnessDependsOnlyOnUsableSetsStandingCountsAndHeights : Type 0
TightnessDependsOnlyOnUsableSetsStandingCountsAndHeights =
    (C R : ℕ) (H H' : Hall C R) (h h' : ℕ → ℕ) → SamePumps H H' → Alike R h h' →
    ((F G : Group) → Alike R F G → Tight H h F → Tight H' h' G) ×
    ((S S' F G : Group) → Alike R S S' → Alike R F G → SmallestTight H h S F → SmallestTight H' h' S' G) ×
    ((E : Group) → LevelBut H h E → LevelBut H' h' E)

-- ---- level

-- At every k there is a tight group between the rigs higher than k and those of height k or more, the rigs of E aside;
-- where E has no rig, this is of level itself.
abbrev pub LevelIsACutAtEveryHeight : Type 0
LevelIsACutAtEveryHeight =
    (C R : ℕ) (H : Hall C R) (x : Placing) → Placement H x →
    (E : Group) → LevelBut H (height C x) E ↔ ((k : ℕ) → Cut H (height C x) E k)

-- Where each class that stands can use some rig.
abbrev pub PumpsThatCanBePlacedHaveALevelPlacement : Type 0
PumpsThatCanBePlacedHaveALevelPlacement =
    (C R : ℕ) (H : Hall C R) → ((c : ℕ) → c < C → H.standing c ≢ 0 → (r : ℕ) × (r < R) × (H.usable c r ≡ true)) →
    (x : Placing) × Placement H x × Level H (height C x)

abbrev pub ALevelPlacementHasTheLeastExcess : Type 0
ALevelPlacementHasTheLeastExcess =
    (C R : ℕ) (H : Hall C R) (x y : Placing) → Placement H x → Placement H y → Level H (height C x) →
    (k : ℕ) → excess R (height C x) k ≤ excess R (height C y) k

-- Summed over the rigs, no placement of the same pumps costs less.
abbrev pub ALevelPlacementIsBestForEveryConvexCost : Type 0
ALevelPlacementIsBestForEveryConvexCost =
    (C R : ℕ) (H : Hall C R) (x y : Placing) → Placement H x → Placement H y → Level H (height C x) →
    (cost : ℕ → ℕ) → Convex cost → sum_to R (λ r. cost (height C x r)) ≤ sum_to R (λ r. cost (height C y r))

abbrev pub NoGroupConfinesMoreThanTheGreatestHeightARig : Type 0
NoGroupConfinesMoreThanTheGreatestHeightARig =
    (C R : ℕ) (H : Hall C R) (x : Placing) → Placement H x → (L : ℕ) → Greatest R (height C x) L →
    (G : Group) → confined H G ≤ L * size R G

abbrev pub TheBottleneckConfinesMoreThanOneLessARig : Type 0
TheBottleneckConfinesMoreThanOneLessARig =
    (C R : ℕ) (H : Hall C R) (x : Placing) → Placement H x → Level H (height C x) →
    pumps H ≢ 0 → (L : ℕ) (M : Group) → Bottleneck H (height C x) L M → (L - 1) * size R M < confined H M

-- If n pumps a rig, n a whole number, bounds the density of the bottleneck, it bounds that of every group.
abbrev pub RoundedUpNoGroupIsDenserThanTheBottleneck : Type 0
RoundedUpNoGroupIsDenserThanTheBottleneck =
    (C R : ℕ) (H : Hall C R) (x : Placing) → Placement H x → Level H (height C x) →
    (L : ℕ) (M : Group) → Bottleneck H (height C x) L M →
    (n : ℕ) → NoDenser (density H M) (a_rig n) → (G : Group) → NoDenser (density H G) (a_rig n)

-- The two may be placements in different halls, where the same pumps stand.
abbrev pub LevelPlacementsOfTheSamePumpsAgree : Type 0
LevelPlacementsOfTheSamePumpsAgree =
    (C R : ℕ) (H H' : Hall C R) (x y : Placing) → SamePumps H H' → Placement H x → Placement H' y →
    Level H (height C x) → Level H' (height C y) → Agree H H' (height C x) (height C y)

-- So halls of different sizes can be compared in one frame. Every placement in H is, on the classes and rigs of H, one
-- in H'; and every one in H' is the same in both.
abbrev pub ALargerFrameChangesNothing : Type 0
ALargerFrameChangesNothing =
    (C R C' R' : ℕ) (H : Hall C R) (H' : Hall C' R') → Framed H H' →
    ((x : Placing) → Placement H x → (y : Placing) × Placement H' y × ((c : ℕ) → c < C → Alike R (x c) (y c))) ×
    ((y : Placing) → Placement H' y → SameInBoth H H' y)

-- x need not be level; where it is, its excess is the least in H.
abbrev pub MoreUsableRigsNeverMeanMoreExcess : Type 0
MoreUsableRigsNeverMeanMoreExcess =
    (C R : ℕ) (H H' : Hall C R) (x y : Placing) → Widened H H' → Placement H x → Placement H' y →
    Level H' (height C y) → (k : ℕ) → excess R (height C y) k ≤ excess R (height C x) k

-- K bounds the heights: from there on the excess is 0.
abbrev pub TurnsWaitedAreTheSumOfTheExcesses : Type 0
TurnsWaitedAreTheSumOfTheExcesses =
    (R : ℕ) (h : ℕ → ℕ) (K : ℕ) → ((r : ℕ) → r < R → h r ≤ K) →
    turns_waited R h ≡ sum_to K (λ k. excess R h (k + 1))

-- ---- changes

-- The rig g rises by one, a lowest one of the smallest tight group A around the usable set of t.
abbrev pub AddingToALowestRigOfItsSmallestTightGroupKeepsLevel : Type 0
AddingToALowestRigOfItsSmallestTightGroupKeepsLevel =
    (C R : ℕ) (H H' : Hall C R) (x : Placing) → Placement H x → Level H (height C x) →
    (t : ℕ) → OnePumpMore H t H' → (A : Group) → SmallestTight H (height C x) (H.usable t) A →
    (g : ℕ) → Lowest R (height C x) (λ r. A r ≡ true) g →
    CanAndAlways H' (λ h. OneMore R g (height C x) h) (λ h. Level H' h)

-- The rig d falls by one, a highest donor of t.
abbrev pub RemovingFromAHighestDonorKeepsLevel : Type 0
RemovingFromAHighestDonorKeepsLevel =
    (C R : ℕ) (H H' : Hall C R) (x : Placing) → Placement H x → Level H (height C x) →
    (t : ℕ) → OnePumpMore H' t H → (d : ℕ) → Highest R (height C x) (DonorOf H (height C x) t) d →
    CanAndAlways H' (λ h. OneMore R d h (height C x)) (λ h. Level H' h)

-- The donors of a class are the donors to each rig with a pump of it; and the donors to a rig are what it reaches
-- backwards, which there is.
abbrev pub TheDonorsOfAClassAreWhatAnyRigWithItsPumpReachesBackwards : Type 0
TheDonorsOfAClassAreWhatAnyRigWithItsPumpReachesBackwards =
    (C R : ℕ) (H : Hall C R) (x : Placing) → Placement H x → (r : ℕ) → r < R →
    ((t d : ℕ) → t < C → x t r ≢ 0 → DonorOf H (height C x) t d ↔ DonorTo H (height C x) r d) ×
    ((G : Group) → ReachedBackwards H x r G → (d : ℕ) → d < R → DonorTo H (height C x) r d ↔ (G d ≡ true)) ×
    ((G : Group) × ReachedBackwards H x r G)

abbrev pub LeavingOutARigAndItsPumpsKeepsLevel : Type 0
LeavingOutARigAndItsPumpsKeepsLevel =
    (C R : ℕ) (H H' : Hall C R) (x x' : Placing) → Placement H x → Level H (height C x) →
    (r : ℕ) → LeftOut H x r H' x' → Placement H' x' × Level H' (height C x')

abbrev pub LettingInARigKeepsLevelButForIt : Type 0
LettingInARigKeepsLevelButForIt =
    (C R : ℕ) (H H' : Hall C R) (x : Placing) → Placement H x → Level H (height C x) →
    (r : ℕ) → LetIn H r H' → Placement H' x × (height C x r ≡ 0) × LevelBut H' (height C x) (only r)

-- One is moved from the rig d to the rig r: d is a highest donor to r, and more than one higher than r.
abbrev pub APullFromAHighestDonorKeepsLevelButForTheRig : Type 0
APullFromAHighestDonorKeepsLevelButForTheRig =
    (C R : ℕ) (H : Hall C R) (x : Placing) → Placement H x → (r : ℕ) → r < R → LevelBut H (height C x) (only r) →
    (d : ℕ) → Highest R (height C x) (DonorTo H (height C x) r) d → height C x r + 1 < height C x d →
    CanAndAlways H (λ h. OneMoved R d r (height C x) h) (λ h. LevelBut H h (only r))

abbrev pub LevelWhenNoDonorToTheRigIsMoreThanOneHigher : Type 0
LevelWhenNoDonorToTheRigIsMoreThanOneHigher =
    (C R : ℕ) (H : Hall C R) (h : ℕ → ℕ) (r : ℕ) → LevelBut H h (only r) →
    ((d : ℕ) → d < R → DonorTo H h r d → h d ≤ h r + 1) → Level H h
