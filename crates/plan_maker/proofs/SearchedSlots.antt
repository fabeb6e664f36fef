-- The search for slots, demand by demand and try by try.
use Rattle.std.proofs.Common.{◌≡◌, ℕ, suc, ◌+◌, ◌-◌, ◌<◌, ◌≤◌, Option, Some, None, Result, Ok, Err, List, [], ◌∷◌, ◌++◌, length, drop, get_or, map, refl, ap, sym}
use Rattle.std.proofs.Common.{◌∙◌, arith, add-one, append_assoc}
use Rattle.std.specs.Prelude.{nat_lt, true, false, min, fold, option_map, slice_get, slice_set}
use Rattle.std.specs.Result.{result_map_both}
use Rattle.std.proofs.lemmas.Bool.{lt-ltb, le-ltb}
use Rattle.std.proofs.lemmas.List.{append-nil, drop_all, map-set}
use Rattle.std.proofs.lemmas.Option.{slice_get-map, slice_get-get_or}
use Rattle.std.proofs.Math.Seq.{drop-cons}
use Rattle.slot_plan.specs.declared.slot.Slot.{Slot}
use Rattle.plan_maker.specs.Bounded.{most_long}
use Rattle.plan_maker.specs.Demands.{DemandView, demand_view, need_is_full, total_count}
use Rattle.plan_maker.specs.Placements.{task_of}
use Rattle.plan_maker.specs.Searches.{before, tasks_from, with_more, added, total_of, missing_in, slots_in, found_in}
use Rattle.plan_maker.specs.declared.search.demand.Demand.{Demand}
use Rattle.plan_maker.specs.declared.search.placement.PlacementTask.{PlacementTask}

-- The tasks of a try

-- Some tasks before the others.
abbrev pub after : List PlacementTask → Result (List PlacementTask) ℕ → Result (List PlacementTask) ℕ
after tasks others = result_map_both (λ more. tasks ++ more) (λ i. i) others

pub after_none : (others : Result (List PlacementTask) ℕ) → others ≡ after [] others
after_none (Ok more) = refl
after_none (Err i) = refl

after_one : (tasks : List PlacementTask) (task : PlacementTask) (i : ℕ) (others : Result (List PlacementTask) ℕ) →
    after tasks (before (Some task) i others) ≡ after (tasks ++ task ∷ []) others
after_one tasks task i (Ok more) = ap Ok (sym (append_assoc tasks (task ∷ []) more))
after_one tasks task i (Err missed) = refl

-- The tasks of the demands from number i on.
abbrev pub others_from : ℕ → ℕ → List Demand → Result (List PlacementTask) ℕ
others_from period i ds = tasks_from period i (map demand_view (drop i ds))

module _ (period i : ℕ) (ds : List Demand) where
  split_at : (d : Demand) → i < length ds →
      others_from period i ds ≡ before (task_of (demand_view (get_or ds i d)) period) i (others_from period (i + 1) ds)
  unfolding tasks_from
  split_at d lt = rw (add-one i) (ap (λ (l : List Demand). tasks_from period i (map demand_view l)) (drop-cons ds i d lt))

  split : (d : Demand) → i < length ds → d ≡ get_or ds i d →
      others_from period i ds ≡ before (task_of (demand_view d) period) i (others_from period (i + 1) ds)
  split d lt at = split_at d lt
      ∙ ap (λ (e : Demand). before (task_of (demand_view e) period) i (others_from period (i + 1) ds)) (sym at)

  none_left : length ds ≤ i → others_from period i ds ≡ Ok []
  unfolding tasks_from
  none_left le = ap (λ (l : List Demand). tasks_from period i (map demand_view l)) (drop_all i ds le)

  module _ (whole : Result (List PlacementTask) ℕ) (tasks : List PlacementTask) (here : whole ≡ after tasks (others_from period i ds)) where
    -- Demand number i has a task.
    pub one_task : (d : Demand) (task : PlacementTask) → i < length ds → d ≡ get_or ds i d → task_of (demand_view d) period ≡ Some task →
        whole ≡ after (tasks ++ task ∷ []) (others_from period (i + 1) ds)
    one_task d task lt at is =
        here ∙ ap (after tasks) (split d lt at ∙ ap (λ (o : Option PlacementTask). before o i (others_from period (i + 1) ds)) is)
        ∙ after_one tasks task i (others_from period (i + 1) ds)

    -- Demand number i has no task.
    pub no_task : (d : Demand) → i < length ds → d ≡ get_or ds i d → task_of (demand_view d) period ≡ None → Err i ≡ whole
    no_task d lt at is =
        sym (here ∙ ap (after tasks) (split d lt at ∙ ap (λ (o : Option PlacementTask). before o i (others_from period (i + 1) ds)) is))

    -- No demand is left.
    pub all_tasks : length ds ≤ i → Ok tasks ≡ whole
    all_tasks le = sym (here ∙ ap (after tasks) (none_left le) ∙ ap Ok (append-nil tasks))

-- More own slots

-- The demand of that number has more own slots.
pub some_added : (period i : ℕ) (ds : List Demand) (d x : Demand) → i < length ds → d ≡ get_or ds i d →
    need_is_full (demand_view d).need period d.count ≡ false → demand_view x ≡ with_more (demand_view d) →
    Some (map demand_view (slice_set ds i x)) ≡ added period (map demand_view ds) i
some_added period i ds d x lt at full is =
    let found : slice_get (map demand_view ds) i ≡ Some (demand_view d) =
    slice_get-map demand_view ds i ∙ ap (option_map demand_view) (slice_get-get_or ds i d lt ∙ ap Some (sym at)) in
    rw (found, full) (ap Some (map-set demand_view ds i x ∙ ap (slice_set (map demand_view ds) i) is))

-- Tries

total_views : (ds : List Demand) → total_count ds ≡ total_of (map demand_view ds)
total_views ds = ap (λ (n : ℕ). min n most_long) (sums 0 ds)
  where
    sums : (sum : ℕ) (xs : List Demand) → fold (λ (a : ℕ) (d : Demand). a + d.count) sum xs
        ≡ fold (λ (a : ℕ) (v : DemandView). a + v.count) sum (map demand_view xs)
    sums sum [] = refl
    sums sum (x ∷ xs) = sums (sum + x.count) xs

no_try : (period : ℕ) (ds : List DemandView) → found_in 0 period ds ≡ None
unfolding found_in
no_try period ds = refl

module _ (n period : ℕ) (ds : List DemandView) where
  over : nat_lt period (total_of ds) ≡ true → found_in (suc n) period ds ≡ None
  unfolding found_in
  over is = rw is refl

  module _ (fits : nat_lt period (total_of ds) ≡ false) where
    all_placed : missing_in period ds ≡ None → found_in (suc n) period ds ≡ Some (slots_in period ds)
    unfolding found_in
    all_placed is = rw (fits, is) refl

    module _ (i : ℕ) (missing : missing_in period ds ≡ Some i) where
      no_help : added period ds i ≡ None → found_in (suc n) period ds ≡ None
      unfolding found_in
      no_help is = rw (fits, missing, is) refl

      next_try : (more : List DemandView) → added period ds i ≡ Some more → found_in (suc n) period ds ≡ found_in n period more
      unfolding found_in
      next_try more is = rw (fits, missing, is) refl

-- A loop of twelve tries, of which `counter` have been made.
module _ (counter period : ℕ) (ds : List Demand) (whole : Option (List Slot)) (here : whole ≡ found_in (12 - counter) period (map demand_view ds)) where
  -- No try is left.
  pub none_now : 12 ≤ counter → None ≡ whole
  none_now le =
      let spent : 12 - counter ≡ 0 = omega (arith, le) in
      sym (here ∙ ap (λ (n : ℕ). found_in n period (map demand_view ds)) spent ∙ no_try period (map demand_view ds))

  module _ (lt : counter < 12) (total : ℕ) (is : total ≡ total_count ds) where
    now : whole ≡ found_in (suc (12 - (counter + 1))) period (map demand_view ds)
    now =
        let left : 12 - counter ≡ suc (12 - (counter + 1)) = omega (arith, lt) in
        here ∙ ap (λ (n : ℕ). found_in n period (map demand_view ds)) left

    -- All items together have too many own slots.
    pub over_now : period < total → None ≡ whole
    over_now more =
        sym (now ∙ over (12 - (counter + 1)) period (map demand_view ds) (ap (nat_lt period) (sym (is ∙ total_views ds)) ∙ lt-ltb period total more))

    module _ (le : total ≤ period) where
      fits : nat_lt period (total_of (map demand_view ds)) ≡ false
      fits = ap (nat_lt period) (sym (is ∙ total_views ds)) ∙ le-ltb period total le

      -- All slots are placed.
      pub placed_now : (slots : List Slot) → None ≡ missing_in period (map demand_view ds) → slots ≡ slots_in period (map demand_view ds) →
          Some slots ≡ whole
      placed_now slots none same =
          ap Some same ∙ sym (now ∙ all_placed (12 - (counter + 1)) period (map demand_view ds) fits (sym none))

      module _ (i : ℕ) (missing : Some i ≡ missing_in period (map demand_view ds)) where
        -- More own slots can't help.
        pub stuck_now : None ≡ added period (map demand_view ds) i → None ≡ whole
        stuck_now none = sym (now ∙ no_help (12 - (counter + 1)) period (map demand_view ds) fits i (sym missing) (sym none))

        -- The next try has more own slots.
        pub more_now : (more : List Demand) → Some (map demand_view more) ≡ added period (map demand_view ds) i →
            whole ≡ found_in (12 - (counter + 1)) period (map demand_view more)
        more_now more some =
            now ∙ next_try (12 - (counter + 1)) period (map demand_view ds) fits i (sym missing) (map demand_view more) (sym some)
