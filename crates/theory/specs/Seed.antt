-- Rows whose ways part only at parallels, completed from the root down, give a legal configuration that holds them.
use Rattle.std.specs.Prelude.{◌≡◌, refl, Bool, true, false, List, ℕ, zero, suc, ◌<◌}
use Rattle.std.proofs.Common.{sym, ⊎_elim, arith}
use Rattle.definition.specs.Rows.{mem, is_in, is_empty, nothing_at}
use Rattle.definition.specs.Chart.{Chart, kind, parent, is_root}
use Rattle.definition.specs.Tree.{is_descendant, is_compound, is_domain_kind}
use Rattle.follower.specs.Microstep.{paths_below, entry_set}
use Rattle.follower.specs.Follower.{first_entry}
use Rattle.follower.specs.Selection.{initial_targets}
use Rattle.follower.specs.Legal.{is_legal}
use Rattle.laws.specs.Bools.{no, not_so, or_left}
use Rattle.laws.specs.Lists.{ascends_set}
use Rattle.laws.specs.Ways.{Way, here, up, Below, way_cases, way_le}
use Rattle.accepted.specs.Tree.{Tree, low, root_kind, under_below, under_plain, below_under, parent_plain}
use Rattle.accepted.specs.Fork.{live, Partial}
use Rattle.accepted.specs.Sound.{Sound}
use Rattle.theory.specs.Accepted.{HistOk}
use Rattle.theory.specs.Resolved.{ini}
use Rattle.theory.specs.Entry.{Initial, live_of, down_facts, down_intro, path_inside, path_descends, path_up, ascends_paths, first_child, entry_holds, entry_ascends, entry_inside, Ready, filled_legal}
use Rattle.theory.specs.EntryOrder.{EntrySet, entry_set_lem}
use Rattle.theory.specs.LegalTest.{facts_legal}

-- nothing stays
abbrev pub none_stays : ℕ → Bool
none_stays i = false

pub none_part : (c : Chart) → Partial c none_stays
none_part c =
    record {
      inside = λ i h. absurd (no h);
      plain = λ i h. absurd (no h);
      no_root = refl;
      upward = λ i h. absurd (no h);
      alone = λ i j h k e q. absurd (no h);
    }

-- a configuration that holds the rows, and so those on the way to them
pub record Grown (c : Chart) (xs : List ℕ) : Type 0 where
  pub configuration : List ℕ
  pub legal : is_legal c configuration ≡ true
  pub holds : (j x : ℕ) → mem x xs ≡ true → Way (parent c) j x → is_descendant c 0 j ≡ true → mem j configuration ≡ true

module _ (c : Chart) (t : Tree c) {targets : ℕ → List ℕ} (initials : (k : ℕ) → k < c.rows → is_domain_kind c k ≡ true → Initial c k (targets k)) (xs : List ℕ) (s : Initial c 0 xs) where
  seed_up : (j : ℕ) → mem (suc j) (paths_below c 0 xs) ≡ true → live (is_in (paths_below c 0 xs)) (parent c (suc j)) ≡ true
  seed_up j h =
      ⊎_elim (λ (e : 0 ≡ parent c (suc j)). rw (← e) refl)
      (λ (b : Below (parent c) 0 (parent c (suc j))). live_of (is_in (paths_below c 0 xs)) (parent c (suc j))
      (path_up c t 0 xs (parent c (suc j)) h (up j here) (below_under c t 0 (parent c (suc j)) (parent_plain c t j) b)))
      (way_cases (parent c) (under_below c t 0 (suc j) (path_descends c 0 xs (suc j) h)))

  -- the rows and those on the way to them are ready to be completed
  pub seed_ready : Ready c t initials none_stays (none_part c) (paths_below c 0 xs)
  seed_ready =
      record {
        inv = record {
          part = record {
            inside = path_inside c 0 xs;
            plain = λ i h. under_plain c t 0 i (path_descends c 0 xs i h);
            no_root = not_so _ (λ h. under_below c t 0 0 (path_descends c 0 xs 0 h));
            upward = seed_up;
            alone = λ i j h k e q. let a = (down_facts c t 0 xs (suc i) h).1 in let b = (down_facts c t 0 xs (suc j) k).1 in
                s.forks a.0 b.0 a.1 b.1 i j a.2 b.2 e q;
          };
          new = λ i m. refl;
        };
        any_stay = some_stay;
        every_stay = λ j l p h q. absurd (no h);
      }
    where
      some_stay : (k : ℕ) → live none_stays k ≡ true → is_domain_kind c k ≡ true → (j : ℕ) × (mem (suc j) (paths_below c 0 xs) ≡ true) × (parent c (suc j) ≡ k)
      some_stay zero l q = first_child c t 0 xs s
      some_stay (suc k) l q = absurd (no l)

  pub seed_legal : is_legal c (entry_set c targets (paths_below c 0 xs)).set ≡ true
  seed_legal =
      facts_legal c t (entry_set c targets (paths_below c 0 xs)).set
      (ascends_set c.rows (entry_set c targets (paths_below c 0 xs)).set (entry_ascends c targets (paths_below c 0 xs) (ascends_paths c 0 xs))
      (entry_inside c targets (paths_below c 0 xs) (path_inside c 0 xs)))
      (filled_legal c t initials none_stays (none_part c) (paths_below c 0 xs) seed_ready)

  pub seed_grown : Grown c xs
  seed_grown =
      record {
        configuration = (entry_set c targets (paths_below c 0 xs)).set;
        legal = seed_legal;
        holds = λ j x m w u. entry_holds c targets (paths_below c 0 xs) j
            (down_intro c t 0 xs j x (omega (arith, way_le (parent c) (low c t) w, s.inside x m)) u m w);
      }

-- nothing is stored when a session starts
pub nothing_ok : (c : Chart) → HistOk c nothing_at
unfolding HistOk is_empty
nothing_ok c h q n = absurd (no (sym n))

first_ini : (c : Chart) → Sound c → (k : ℕ) → k < c.rows → is_domain_kind c k ≡ true → Initial c k (initial_targets c nothing_at k)
first_ini c g k l q = ini c g nothing_at (nothing_ok c) k l q

-- in a sound chart, by default entry
pub grown : (c : Chart) (g : Sound c) (xs : List ℕ) → Initial c 0 xs → Grown c xs
grown c g xs s = seed_grown c g.tree (first_ini c g) xs s

-- the configuration that a start enters is legal
pub first_legal : (c : Chart) → Sound c → is_legal c (first_entry c).set ≡ true
unfolding first_entry is_domain_kind
first_legal c g =
    seed_legal c g.tree (first_ini c g) (initial_targets c nothing_at 0) (first_ini c g 0 g.tree.some (or_left (is_root (kind c 0)) (is_compound c 0) (root_kind c g.tree)))

-- the entry set of a start, in the document's words
pub first_means : (c : Chart) → Sound c → EntrySet c (initial_targets c nothing_at) (paths_below c 0 (initial_targets c nothing_at 0)) (first_entry c)
unfolding first_entry is_domain_kind
first_means c g =
    entry_set_lem c g.tree (first_ini c g) none_stays (none_part c) (paths_below c 0 (initial_targets c nothing_at 0))
    (seed_ready c g.tree (first_ini c g) (initial_targets c nothing_at 0) (first_ini c g 0 g.tree.some (or_left (is_root (kind c 0)) (is_compound c 0) (root_kind c g.tree)))).inv
    (ascends_paths c 0 (initial_targets c nothing_at 0))
