-- The files that are ready to run, as the schedule counts them.
use Rattle.std.specs.Prelude.{◌≡◌, ◌++◌, ◌∷◌, ◌≤◌, ◌-◌, ◌⊎◌, ℕ, nat_eq, List, [], Contains, slice_index_or}
use Rattle.std.specs.List.{count_by}
use Rattle.star_flow.specs.declared.schedule.Next.{Next}
use Rattle.star_flow.specs.declared.schedule.Next.TheVariants.{Run, Sleep, Over}

-- for each file how many of its loads have not ended; the files that are ready; and how many run
pub record ScheduleView : Type 0 where
  pub missing : List ℕ
  pub ready : List ℕ
  pub running : ℕ

-- all loads of a file have ended
abbrev pub HasAll : List ℕ → ℕ → Type 0
HasAll missing n = slice_index_or missing n 0 ≡ 0

-- a loader runs the file that became ready last; or sleeps while files run; or nothing is ready or runs
abbrev pub IsNext : ScheduleView → Next → ScheduleView → Type 0
IsNext old (Run n) new = (old.ready ≡ new.ready ++ n ∷ []) × (new.missing ≡ old.missing) × (1 ≤ new.running)
IsNext old Sleep new = (old.ready ≡ []) × (1 ≤ old.running) × (new ≡ old)
IsNext old Over new = (old.ready ≡ []) × (old.running ≡ 0) × (new ≡ old)

-- a ready file was ready before, or is one of these
abbrev pub IsReadyOf : List ℕ → List ℕ → List ℕ → Type 0
IsReadyOf old more new = (n : ℕ) → Contains new n → Contains old n ⊎ Contains more n

-- how many loads of a file have not ended
abbrev pub waiting : ScheduleView → ℕ → ℕ
waiting s n = slice_index_or s.missing n 0

-- of each file one load fewer is left for each time that it is listed
abbrev pub HaveEnded : List ℕ → ScheduleView → ScheduleView → Type 0
HaveEnded files old new = (n : ℕ) → waiting new n ≡ waiting old n - count_by (nat_eq n) files

-- how many loads each file has, and which numbers are files
pub record GraphView : Type 0 where
  pub loads : List ℕ
  pub files : List ℕ

-- how many loads a file has
abbrev pub loads_of : GraphView → ℕ → ℕ
loads_of g n = slice_index_or g.loads n 0
