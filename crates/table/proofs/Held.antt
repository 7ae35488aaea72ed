-- What a loaded table holds.
use Rattle.std.proofs.Common.{◌≡◌, ℕ, ◌+◌, ◌<◌, List, length, get_or, Ok, Err, Result, sym, refl, ap, ◌∙◌, subst, inl, inr, arith}
use mathlib.Core.HLevel.{⊥_prop}
use mathlib.Core.List.{is_set}
use mathlib.Core.Logic.{∥∥₁_elim, ∥∥₁_map}
use native.Mathlib.Nat.{ℕ_set}
use native.Mathlib.Bridge.{le_prop}
use Rattle.std.proofs.lemmas.Bool.{lt-ltb}
use Rattle.bounded.specs.Listed.{listed}
use Rattle.words.proofs.Laid.{ok_same}
use Rattle.problems.specs.Problem.{read}
use Rattle.problems.specs.Shown.{Seen, outline_of}
use Rattle.registers.specs.Writing.{lead}
use Rattle.machine.specs.declared.answers.LoadFault.{LoadFault}
use Rattle.machine.specs.Loaded.{Loaded}
use Rattle.machine.specs.Loading.{capacity_of, taken, load}
use Rattle.machine.specs.Sound.{Sound}
use Rattle.machine.specs.State.{start}
use Rattle.machine.proofs.Loads.{loads, accepted}
use Rattle.machine.proofs.Runs.{calls_good, start_good}
use Rattle.rows.specs.declared.problem.Load.{Load}
use Rattle.rows.specs.Layout.{Raw, Fits, Carries, Copied, shown}
use Rattle.rows.specs.Standing.{Stands, Holds}
use Rattle.rows.specs.Sweeps.{HeldLive}
use Rattle.rows.proofs.Bridge.{first_given, none_waiting}
use Rattle.rows.proofs.SweepMoves.{sound_live}
use Rattle.loading.specs.LoadedWords.{or_no_problem, problem_in, problem_of, leaving, count_copied, lead_copied, copy, taken_shown}
use Rattle.table.specs.Reached.{Reached, problem_words}

-- two outlines are the same, part by part
seen_same : (x y : Seen) → ∥ x ≡ y ∥₁ → x ≡ y
seen_same x y e =
    let number : (g : Seen → ℕ) → g x ≡ g y = λ g. ∥∥₁_elim e (ℕ_set _ _) (ap g) in
    let list : (g : Seen → List ℕ) → g x ≡ g y = λ g. ∥∥₁_elim e (is_set ℕ_set _ _) (ap g) in
    λ j. record {
      source = record { kinds = number (λ s. s.source.kinds) j; links = number (λ s. s.source.links) j; place = number (λ s. s.source.place) j };
      target = record { kinds = number (λ s. s.target.kinds) j; links = number (λ s. s.target.links) j; place = number (λ s. s.target.place) j };
      rules = list (λ s. s.rules) j;
      maps = number (λ s. s.maps) j;
      link_maps = list (λ s. s.link_maps) j;
    }

module _ (l : Load) (a : Raw) (reached : ∥ Reached l a ∥₁) where
  pub carries : Carries (taken_shown (listed l.leads) a) a.shape
  carries = record {
    links = ∥∥₁_elim reached (ℕ_set _ _) (λ r. r.carries.links);
    capacity = ∥∥₁_elim reached (ℕ_set _ _) (λ r. r.carries.capacity);
    kinds = ∥∥₁_elim reached (ℕ_set _ _) (λ r. r.carries.kinds);
    counts = λ k h. ∥∥₁_elim reached (ℕ_set _ _) (λ r. r.carries.counts k h);
  }

  -- the machine loads its copies
  loaded_as : (x : Result Loaded LoadFault) → load (length a.ws) (problem_words a) (copy (listed l.leads) a) ≡ x → load (length a.ws) (problem_words a) (copy (listed l.leads) a) ≡ Ok (taken_shown (listed l.leads) a)
  unfolding problem_in
  loaded_as (Err f) e = absurd (∥∥₁_elim reached ⊥_prop (λ r. let y = r.loads in let z : ◌≡◌ {A = ℕ} 0 1 = cc in omega arith))
  loaded_as (Ok K) e =
      let k = loads (length a.ws) (problem_words a) (copy (listed l.leads) a) K e in
      let p : problem_of a ≡ k.problem = ap or_no_problem k.reads in
      let c : capacity_of (length a.ws) (problem_words a) k.problem (copy (listed l.leads) a) ≡ a.shape.capacity =
      ∥∥₁_elim reached (ℕ_set _ _) (λ r. sym (ap (λ (M : Loaded). M.capacity) k.takes) ∙ ap (λ (M : Loaded). M.capacity) (ok_same (sym r.loads ∙ e))) in
      e ∙ ap Ok k.takes ∙ (λ j. Ok (taken (sym p j) (copy (listed l.leads) a) (c j)))

  loaded : load (length a.ws) (problem_words a) (copy (listed l.leads) a) ≡ Ok (taken_shown (listed l.leads) a)
  loaded = loaded_as _ refl

  reads : read (problem_words a) ≡ Ok (problem_of a)
  unfolding problem_in
  reads = let k = loads (length a.ws) (problem_words a) (copy (listed l.leads) a) (taken_shown (listed l.leads) a) loaded in k.reads ∙ ap Ok (sym (ap or_no_problem k.reads))

  stands : Stands (taken_shown (listed l.leads) a) a l.found
  stands = record {
    problem = problem_of a;
    source = copy (listed l.leads) a;
    reads = reads;
    told = ap Ok (seen_same _ _ (∥∥₁_map reached (λ (r : Reached l a). ok_same (sym (r.outline ∙ ap outline_of reads)))));
    takes = refl;
    links = carries.links;
  }

  module _ (fits : Fits a) (i q : ℕ) (h : i < length (problem_of a).source_links) (k : q < leaving (problem_of a) (count_copied a) i) where
    within : Copied a.shape (get_or (listed l.leads) i 0 + q) → get_or (listed l.leads) i 0 + q < length a.ws
    within (inl x) = omega (arith, x, fits.below, fits.room)
    within (inr x) = omega (arith, x.1, fits.room)

    leads_in : get_or (listed l.leads) i 0 + q < length a.ws
    leads_in = ∥∥₁_elim reached le_prop (λ r. within (r.placed i q h k))

    leads_to : lead (copy (listed l.leads) a) i q ≡ get_or a.ws (get_or (listed l.leads) i 0 + q) 0
    unfolding lead_copied
    leads_to =
        let e = lt-ltb i (length (problem_of a).source_links) h in
        let d = lt-ltb q (leaving (problem_of a) (count_copied a) i) k in
        rw (e, d) refl

  pub holds : Fits a → Holds (taken_shown (listed l.leads) a) a l.found (listed l.leads)
  holds fits = record {
    stands = stands;
    carries = carries;
    accepted = accepted (length a.ws) (problem_words a) (copy (listed l.leads) a) (taken_shown (listed l.leads) a) loaded;
    led = λ i q h k. (leads_in fits i q h k, leads_to fits i q h k);
  }

  -- calls led to its state
  sound : Reached l a → Sound (taken_shown (listed l.leads) a) (shown a)
  sound r = subst (Sound (taken_shown (listed l.leads) a)) (sym r.state)
      (calls_good (taken_shown (listed l.leads) a) (accepted (length a.ws) (problem_words a) (copy (listed l.leads) a) (taken_shown (listed l.leads) a) loaded) r.made start (start_good (taken_shown (listed l.leads) a))).sound

  pub first_known : 0 < a.waits → get_or (shown a).waiting 0 0 < a.given
  first_known h = ∥∥₁_elim reached le_prop (λ r. first_given (taken_shown (listed l.leads) a) a (sound r) h)

  pub held_live : a.waits ≡ 0 → HeldLive (shown a)
  held_live quiet t w e = ∥∥₁_elim reached (ℕ_set _ _) (λ r. sound_live (taken_shown (listed l.leads) a) (shown a) (sound r) (none_waiting a quiet) t w e)
