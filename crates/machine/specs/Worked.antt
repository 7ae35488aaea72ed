-- Worked examples as one table: problem words, a source and work words, and what a table then tells.
use Rattle.std.specs.Prelude.{◌≡◌, ℕ, suc, List, [], ◌∷◌, ◌++◌, map, length, take, replicate, Some, None, Ok, Err, Option, Result}
use Prim.Native.String.{String}
use Rattle.std.specs.List.{flat_map}
use Rattle.words.specs.declared.faults.Fault.{Fault}
use Rattle.words.specs.declared.faults.Refusal.{Refusal}
use Rattle.words.specs.declared.faults.Refusal.TheVariants as refusal
use Rattle.words.specs.Faults.{fault_of}
use Rattle.words.specs.Words.{then}
use Rattle.register_files.specs.Register.{File}
use Rattle.registers.specs.Meaning.{Meaning, answers}
use Rattle.registers.specs.Wheels.{wheel}
use Rattle.registers.specs.Writing.{upto}
use Rattle.machine.specs.declared.answers.LoadFault.{LoadFault}
use Rattle.machine.specs.LoadFaults.{load_fault}
use Rattle.machine.specs.Loaded.{Loaded}
use Rattle.machine.specs.Loading.{load}
use Rattle.machine.specs.State.{cell, landing}
use Rattle.machine.specs.Sweeping.{rank}
use Rattle.machine.specs.Calls.{land_fault, define_fault, rule_fault, link_fault}
use Rattle.machine.specs.Shift.{End, complete, spent, full, Stepped, shift, begun}
use Rattle.machine.specs.Finish.{finish}

-- A table after a shift from load on: how the shift ended, the numbers, the landings by kind and record, the cells by entry and link,
-- what a define at link 0 of entry 0 is refused for, and the words of a finish or its refusal.
pub record Run : Type 0 where
  pub capacity : ℕ
  pub ended : Option End
  pub steps : ℕ
  pub given : ℕ
  pub living : ℕ
  pub waiting : ℕ
  pub landings : List (Option ℕ)
  pub cells : List (Option ℕ)
  pub land : Option Refusal
  pub define : Option Refusal
  pub elsewhere : List (Option Refusal)
  pub finish : Result (List ℕ) Refusal

-- a refused load, an accepted one with its capacity, or a table after a shift
pub data Told : Type 0 where
  refused : Fault → Told
  accepted : ℕ → Told
  ran : Run → Told

-- only to load, or also to work for so many steps at most
pub data Asked : Type 0 where
  loads : Asked
  works : ℕ → Asked

pub record Case : Type 0 where
  pub name : String
  pub words : List ℕ
  pub source : Meaning
  pub work : ℕ
  pub asked : Asked
  pub expected : Told

-- both numbers counted up, the first slowest
abbrev pub by_rows : {X : Type 0} → (ℕ → ℕ → X) → ℕ → (ℕ → ℕ) → List X
by_rows f n width = flat_map (λ k. upto (f k) (width k)) (upto (λ k. k) n)

abbrev pub told_of : Loaded → Stepped → Run
told_of L p = record {
  capacity = L.capacity;
  ended = p.ended;
  steps = p.done;
  given = p.state.given;
  living = rank p.state.forward p.state.given;
  waiting = length p.state.waiting;
  landings = by_rows (λ k r. p.state.held (landing k r)) L.source_kinds L.count;
  cells = by_rows (λ e l. p.state.held (cell e l)) p.state.given (λ e. L.links);
  land = land_fault L p.state 0 0;
  define = define_fault L p.state 0 0;
  elsewhere = land_fault L p.state L.source_kinds 0 ∷ define_fault L p.state p.state.given 0 ∷ rule_fault L p.state p.state.given 0 ∷ link_fault L p.state L.source_links 0 ∷ [];
  finish = let r = finish L p.state (replicate 16 0) in then r.0 (λ n. Ok (take n r.1));
}

abbrev pub told_after : Asked → Result Loaded LoadFault → Told
told_after asked (Err f) = refused (load_fault f)
told_after loads (Ok L) = accepted L.capacity
told_after (works budget) (Ok L) = ran (told_of L (shift L (suc budget) (begun budget)))

-- what the definitions tell
unfoldable pub told : Case → Told
told c = told_after c.asked (load c.work c.words c.source)

-- one kind each side and a link g on the target, with rules
abbrev pub with_rules : List ℕ → ℕ → List ℕ
with_rules rules end = 0x1000_0001 ∷ 0x1000_0101 ∷ 0x2000_0000 ∷ (rules ++ 0x5000_0000 ∷ end ∷ [])

-- n steps along g
abbrev pub steps : ℕ → List ℕ
steps n = replicate n 0x4000_0000

-- g g g = g
abbrev pub thrice_once : List ℕ
thrice_once = with_rules (0x3000_0301 ∷ steps 4) 0x7000_0009

-- g g = nothing and g g g = nothing
abbrev pub twice_and_thrice : List ℕ
twice_and_thrice = with_rules (0x3000_0200 ∷ (steps 2 ++ 0x3000_0300 ∷ steps 3)) 0x7000_000B

-- two records of a kind that lead to the one record of another
abbrev pub two_to_one : File
two_to_one = record { counts = 2 ∷ 1 ∷ []; links = record { from = 0; to = 1; leads = 0 ∷ 0 ∷ [] } ∷ []; landings = [] }

-- records with no links
abbrev pub apart : List ℕ → File
apart counts = record { counts = counts; links = []; landings = [] }

-- n records, and a link that leads none of them anywhere
abbrev pub led_nowhere : ℕ → File
led_nowhere n = record { counts = n ∷ []; links = record { from = 0; to = 0; leads = [] } ∷ []; landings = [] }

-- a record, then two that a link leads to the first of the two, then a record
abbrev pub led_to_first : File
led_to_first = record { counts = 1 ∷ 2 ∷ 1 ∷ []; links = record { from = 1; to = 1; leads = 0 ∷ 0 ∷ [] } ∷ []; landings = [] }

-- g g = nothing, the source's link becomes g g, and the first record lands where no link leaves
abbrev pub led_twice : List ℕ
led_twice = 0x1000_0003 ∷ 0x2000_0101 ∷ 0x1000_0102 ∷ 0x2000_0000 ∷ 0x3000_0200 ∷ 0x4000_0000 ∷ 0x4000_0000 ∷ 0x5000_0001 ∷ 0x5000_0100 ∷ 0x5000_0200 ∷ 0x6000_0002 ∷ 0x4000_0000 ∷ 0x4000_0000 ∷ 0x7000_000D ∷ []

unfoldable pub cases : List Case
cases =
    record {
      name = "a wheel of six with the step two, onto no links";
      words = 0x1000_0001 ∷ 0x2000_0000 ∷ 0x1000_0101 ∷ 0x5000_0000 ∷ 0x6000_0000 ∷ 0x7000_0005 ∷ [];
      source = wheel 6 (2 ∷ []);
      work = 45;
      asked = works 20;
      expected = ran (record {
        capacity = 9;
        ended = Some complete;
        steps = 6;
        given = 2;
        living = 2;
        waiting = 0;
        landings = Some 0 ∷ Some 1 ∷ Some 0 ∷ Some 1 ∷ Some 0 ∷ Some 1 ∷ [];
        cells = [];
        land = Some refusal.Filled;
        define = Some refusal.NotLiving;
        elsewhere = replicate 4 (Some refusal.NotLiving);
        finish = Ok (0x8000_0001 ∷ 0x9000_0002 ∷ 0xC006_0000 ∷ 0xB000_0000 ∷ 0xB000_0001 ∷ 0xB000_0000 ∷ 0xB000_0001 ∷ 0xB000_0000 ∷ 0xB000_0001 ∷ 0x7000_0009 ∷ []);
      });
    }
    ∷ record {
      name = "three steps are one step";
      words = thrice_once;
      source = wheel 1 [];
      work = 47;
      asked = works 20;
      expected = ran (record {
        capacity = 9;
        ended = Some complete;
        steps = 4;
        given = 3;
        living = 3;
        waiting = 0;
        landings = Some 0 ∷ [];
        cells = Some 1 ∷ Some 2 ∷ Some 1 ∷ [];
        land = Some refusal.Filled;
        define = Some refusal.Filled;
        elsewhere = replicate 4 (Some refusal.NotLiving);
        finish = Ok (0x8000_0001 ∷ 0x9000_0003 ∷ 0xA000_0000 ∷ 0xB000_0001 ∷ 0xB000_0002 ∷ 0xB000_0001 ∷ 0xC001_0000 ∷ 0xB000_0000 ∷ 0x7000_0008 ∷ []);
      });
    }
    ∷ record {
      name = "three steps are one step, and no records";
      words = thrice_once;
      source = wheel 0 [];
      work = 47;
      asked = works 20;
      expected = ran (record {
        capacity = 9;
        ended = Some complete;
        steps = 0;
        given = 0;
        living = 0;
        waiting = 0;
        landings = [];
        cells = [];
        land = Some refusal.NotLiving;
        define = Some refusal.NotLiving;
        elsewhere = replicate 4 (Some refusal.NotLiving);
        finish = Ok (0x8000_0001 ∷ 0x9000_0000 ∷ 0xA000_0000 ∷ 0xC000_0000 ∷ 0x7000_0004 ∷ []);
      });
    }
    ∷ record {
      name = "no rules, in fourteen words: a full table, whose filled cell is refused as filled";
      words = with_rules [] 0x7000_0004;
      source = wheel 1 [];
      work = 14;
      asked = works 20;
      expected = ran (record {
        capacity = 2;
        ended = Some full;
        steps = 2;
        given = 2;
        living = 2;
        waiting = 0;
        landings = Some 0 ∷ [];
        cells = Some 1 ∷ None ∷ [];
        land = Some refusal.Filled;
        define = Some refusal.Filled;
        elsewhere = replicate 4 (Some refusal.NotLiving);
        finish = Err refusal.Incomplete;
      });
    }
    ∷ record {
      name = "no rules, in thirteen words";
      words = with_rules [] 0x7000_0004;
      source = wheel 1 [];
      work = 13;
      asked = works 20;
      expected = ran (record {
        capacity = 1;
        ended = Some full;
        steps = 1;
        given = 1;
        living = 1;
        waiting = 0;
        landings = Some 0 ∷ [];
        cells = None ∷ [];
        land = Some refusal.Filled;
        define = Some refusal.Full;
        elsewhere = replicate 4 (Some refusal.NotLiving);
        finish = Err refusal.Incomplete;
      });
    }
    ∷ record {
      name = "two steps and three steps are none: three steps into the shift nothing waits";
      words = twice_and_thrice;
      source = wheel 1 [];
      work = 49;
      asked = works 3;
      expected = ran (record {
        capacity = 9;
        ended = Some spent;
        steps = 3;
        given = 2;
        living = 2;
        waiting = 0;
        landings = Some 0 ∷ [];
        cells = Some 1 ∷ Some 0 ∷ [];
        land = Some refusal.Filled;
        define = Some refusal.Filled;
        elsewhere = replicate 4 (Some refusal.NotLiving);
        finish = Err refusal.Incomplete;
      });
    }
    ∷ record {
      name = "two steps and three steps are none: the fourth step of the shift merges";
      words = twice_and_thrice;
      source = wheel 1 [];
      work = 49;
      asked = works 4;
      expected = ran (record {
        capacity = 9;
        ended = Some spent;
        steps = 4;
        given = 2;
        living = 1;
        waiting = 1;
        landings = Some 0 ∷ [];
        cells = Some 1 ∷ Some 0 ∷ [];
        land = Some refusal.Waiting;
        define = Some refusal.Waiting;
        elsewhere = replicate 4 (Some refusal.Waiting);
        finish = Err refusal.Waiting;
      });
    }
    ∷ record {
      name = "two steps and three steps are none";
      words = twice_and_thrice;
      source = wheel 1 [];
      work = 49;
      asked = works 20;
      expected = ran (record {
        capacity = 9;
        ended = Some complete;
        steps = 5;
        given = 2;
        living = 1;
        waiting = 0;
        landings = Some 0 ∷ [];
        cells = Some 0 ∷ None ∷ [];
        land = Some refusal.Filled;
        define = Some refusal.Filled;
        elsewhere = replicate 4 (Some refusal.NotLiving);
        finish = Ok (0x8000_0001 ∷ 0x9000_0001 ∷ 0xA000_0000 ∷ 0xB000_0000 ∷ 0xC001_0000 ∷ 0xB000_0000 ∷ 0x7000_0006 ∷ []);
      });
    }
    ∷ record {
      name = "two kinds with a link between them, onto one kind by an empty path";
      words = 0x1000_0002 ∷ 0x2000_0001 ∷ 0x1000_0101 ∷ 0x5000_0000 ∷ 0x5000_0100 ∷ 0x6000_0000 ∷ 0x7000_0006 ∷ [];
      source = answers two_to_one;
      work = 39;
      asked = works 20;
      expected = ran (record {
        capacity = 9;
        ended = Some complete;
        steps = 3;
        given = 1;
        living = 1;
        waiting = 0;
        landings = Some 0 ∷ Some 0 ∷ Some 0 ∷ [];
        cells = [];
        land = Some refusal.Filled;
        define = Some refusal.NotLiving;
        elsewhere = replicate 4 (Some refusal.NotLiving);
        finish = Ok (0x8000_0001 ∷ 0x9000_0001 ∷ 0xC002_0000 ∷ 0xB000_0000 ∷ 0xB000_0000 ∷ 0xC001_0100 ∷ 0xB000_0000 ∷ 0x7000_0007 ∷ []);
      });
    }
    ∷ record {
      name = "a path of sixty-four steps";
      words = with_rules (0x3000_4000 ∷ steps 64) 0x7000_0045;
      source = wheel 1 [];
      work = 107;
      asked = loads;
      expected = accepted 9;
    }
    ∷ record {
      name = "a path of sixty-five steps";
      words = with_rules (0x3000_4100 ∷ steps 65) 0x7000_0046;
      source = wheel 1 [];
      work = 107;
      asked = loads;
      expected = refused (fault_of refusal.Limit 3);
    }
    ∷ record {
      name = "4,095 records";
      words = with_rules [] 0x7000_0004;
      source = wheel 4095 [];
      work = 4136;
      asked = loads;
      expected = accepted 9;
    }
    ∷ record {
      name = "4,096 records";
      words = with_rules [] 0x7000_0004;
      source = wheel 4096 [];
      work = 4137;
      asked = loads;
      expected = refused (fault_of refusal.Large 0);
    }
    ∷ record {
      name = "three steps are one step, with a budget for exactly its steps";
      words = thrice_once;
      source = wheel 1 [];
      work = 47;
      asked = works 4;
      expected = ran (record {
        capacity = 9;
        ended = Some complete;
        steps = 4;
        given = 3;
        living = 3;
        waiting = 0;
        landings = Some 0 ∷ [];
        cells = Some 1 ∷ Some 2 ∷ Some 1 ∷ [];
        land = Some refusal.Filled;
        define = Some refusal.Filled;
        elsewhere = replicate 4 (Some refusal.NotLiving);
        finish = Ok (0x8000_0001 ∷ 0x9000_0003 ∷ 0xA000_0000 ∷ 0xB000_0001 ∷ 0xB000_0002 ∷ 0xB000_0001 ∷ 0xC001_0000 ∷ 0xB000_0000 ∷ 0x7000_0008 ∷ []);
      });
    }
    ∷ record {
      name = "two kinds onto one: numbered by kind, then by record";
      words = 0x1000_0002 ∷ 0x1000_0101 ∷ 0x5000_0000 ∷ 0x5000_0100 ∷ 0x7000_0004 ∷ [];
      source = answers (apart (2 ∷ 1 ∷ []));
      work = 35;
      asked = works 20;
      expected = ran (record {
        capacity = 9;
        ended = Some complete;
        steps = 3;
        given = 3;
        living = 3;
        waiting = 0;
        landings = Some 0 ∷ Some 1 ∷ Some 2 ∷ [];
        cells = [];
        land = Some refusal.Filled;
        define = Some refusal.NotLiving;
        elsewhere = replicate 4 (Some refusal.NotLiving);
        finish = Ok (0x8000_0001 ∷ 0x9000_0003 ∷ 0xC002_0000 ∷ 0xB000_0000 ∷ 0xB000_0001 ∷ 0xC001_0100 ∷ 0xB000_0002 ∷ 0x7000_0007 ∷ []);
      });
    }
    ∷ record {
      name = "two links from one record, and h h = h behind them: numbered by entry, then by link";
      words = 0x1000_0001 ∷ 0x1000_0102 ∷ 0x2000_0001 ∷ 0x2000_0001 ∷ 0x2000_0101 ∷ 0x3001_0201 ∷ 0x4000_0002 ∷ 0x4000_0002 ∷ 0x4000_0002 ∷ 0x5000_0000 ∷ 0x7000_000A ∷ [];
      source = answers (apart (1 ∷ []));
      work = 66;
      asked = works 20;
      expected = ran (record {
        capacity = 9;
        ended = Some complete;
        steps = 7;
        given = 5;
        living = 5;
        waiting = 0;
        landings = Some 0 ∷ [];
        cells = Some 1 ∷ Some 2 ∷ None ∷ None ∷ None ∷ Some 3 ∷ None ∷ None ∷ Some 4 ∷ None ∷ None ∷ Some 3 ∷ None ∷ None ∷ Some 4 ∷ [];
        land = Some refusal.Filled;
        define = Some refusal.Filled;
        elsewhere = replicate 4 (Some refusal.NotLiving);
        finish = Ok (0x8000_0002 ∷ 0x9000_0001 ∷ 0x9000_0004 ∷ 0xA000_0001 ∷ 0xB000_0000 ∷ 0xA000_0001 ∷ 0xB000_0001 ∷ 0xA000_0101 ∷ 0xB000_0002 ∷ 0xB000_0003 ∷ 0xB000_0002 ∷ 0xB000_0003 ∷ 0xC001_0000 ∷ 0xB000_0000 ∷ 0x7000_000E ∷ []);
      });
    }
    ∷ record {
      name = "two are led to the first: a source link is checked before a rule";
      words = led_twice;
      source = answers led_to_first;
      work = 44;
      asked = works 8;
      expected = ran (record {
        capacity = 6;
        ended = Some spent;
        steps = 8;
        given = 6;
        living = 6;
        waiting = 0;
        landings = Some 0 ∷ Some 1 ∷ Some 2 ∷ Some 3 ∷ [];
        cells = None ∷ Some 4 ∷ Some 5 ∷ None ∷ Some 1 ∷ Some 1 ∷ [];
        land = Some refusal.Filled;
        define = Some refusal.NotLiving;
        elsewhere = replicate 4 (Some refusal.NotLiving);
        finish = Err refusal.Incomplete;
      });
    }
    ∷ record {
      name = "two are led to the first: while one waits, what does not live is refused as waiting";
      words = led_twice;
      source = answers led_to_first;
      work = 44;
      asked = works 9;
      expected = ran (record {
        capacity = 6;
        ended = Some spent;
        steps = 9;
        given = 6;
        living = 5;
        waiting = 1;
        landings = Some 0 ∷ Some 1 ∷ Some 2 ∷ Some 3 ∷ [];
        cells = None ∷ Some 4 ∷ Some 5 ∷ None ∷ Some 1 ∷ Some 1 ∷ [];
        land = Some refusal.Waiting;
        define = Some refusal.Waiting;
        elsewhere = replicate 4 (Some refusal.Waiting);
        finish = Err refusal.Waiting;
      });
    }
    ∷ record {
      name = "two are led to the first: settling one merges what its cell and the survivor's hold";
      words = led_twice;
      source = answers led_to_first;
      work = 44;
      asked = works 10;
      expected = ran (record {
        capacity = 6;
        ended = Some spent;
        steps = 10;
        given = 6;
        living = 4;
        waiting = 1;
        landings = Some 0 ∷ Some 1 ∷ Some 1 ∷ Some 3 ∷ [];
        cells = None ∷ Some 4 ∷ None ∷ None ∷ Some 1 ∷ Some 1 ∷ [];
        land = Some refusal.Waiting;
        define = Some refusal.Waiting;
        elsewhere = replicate 4 (Some refusal.Waiting);
        finish = Err refusal.Waiting;
      });
    }
    ∷ record {
      name = "g f = nothing and g = g f: settling one merges another, which then waits behind it";
      words = 0x1000_0001 ∷ 0x1000_0101 ∷ 0x2000_0000 ∷ 0x2000_0000 ∷ 0x3000_0200 ∷ 0x4000_0001 ∷ 0x4000_0000 ∷ 0x3000_0102 ∷ 0x4000_0001 ∷ 0x4000_0001 ∷ 0x4000_0000 ∷ 0x5000_0000 ∷ 0x7000_000C ∷ [];
      source = wheel 1 [];
      work = 59;
      asked = works 20;
      expected = ran (record {
        capacity = 9;
        ended = Some complete;
        steps = 7;
        given = 3;
        living = 1;
        waiting = 0;
        landings = Some 0 ∷ [];
        cells = Some 0 ∷ Some 0 ∷ None ∷ None ∷ None ∷ None ∷ [];
        land = Some refusal.Filled;
        define = Some refusal.Filled;
        elsewhere = replicate 4 (Some refusal.NotLiving);
        finish = Ok (0x8000_0001 ∷ 0x9000_0001 ∷ 0xA000_0000 ∷ 0xB000_0000 ∷ 0xA000_0000 ∷ 0xB000_0000 ∷ 0xC001_0000 ∷ 0xB000_0000 ∷ 0x7000_0008 ∷ []);
      });
    }
    ∷ record {
      name = "4,096 records with a link that the schema lacks, in no words: the shape is told first";
      words = with_rules [] 0x7000_0004;
      source = wheel 4096 (0 ∷ []);
      work = 0;
      asked = loads;
      expected = refused (fault_of refusal.Shape 0);
    }
    ∷ record {
      name = "4,096 records that lead to nothing, in no words: their number is told first";
      words = 0x1000_0001 ∷ 0x2000_0000 ∷ 0x1000_0101 ∷ 0x5000_0000 ∷ 0x6000_0000 ∷ 0x7000_0005 ∷ [];
      source = answers (led_nowhere 4096);
      work = 0;
      asked = loads;
      expected = refused (fault_of refusal.Large 0);
    }
    ∷ record {
      name = "a record that leads to nothing, in no words: the lead is told first";
      words = 0x1000_0001 ∷ 0x2000_0000 ∷ 0x1000_0101 ∷ 0x5000_0000 ∷ 0x6000_0000 ∷ 0x7000_0005 ∷ [];
      source = answers (led_nowhere 1);
      work = 0;
      asked = loads;
      expected = refused (fault_of refusal.Leads 0);
    }
    ∷ record {
      name = "as many words as a load needs";
      words = with_rules [] 0x7000_0004;
      source = wheel 1 [];
      work = 6;
      asked = loads;
      expected = accepted 0;
    }
    ∷ record {
      name = "one word less than a load needs";
      words = with_rules [] 0x7000_0004;
      source = wheel 1 [];
      work = 5;
      asked = loads;
      expected = refused (fault_of refusal.Memory 0);
    }
    ∷ record {
      name = "more words than 65,535 entries need";
      words = with_rules [] 0x7000_0004;
      source = wheel 1 [];
      work = 1000000;
      asked = loads;
      expected = accepted 65535;
    }
    ∷ record {
      name = "two are led to the first, in forty-four words: a sweep, and then exactly as many steps as the budget has";
      words = led_twice;
      source = answers led_to_first;
      work = 44;
      asked = works 14;
      expected = ran (record {
        capacity = 6;
        ended = Some complete;
        steps = 14;
        given = 5;
        living = 5;
        waiting = 0;
        landings = Some 0 ∷ Some 1 ∷ Some 1 ∷ Some 2 ∷ [];
        cells = None ∷ Some 3 ∷ Some 4 ∷ Some 1 ∷ Some 2 ∷ [];
        land = Some refusal.Filled;
        define = Some refusal.NotLiving;
        elsewhere = replicate 4 (Some refusal.NotLiving);
        finish = Ok (0x8000_0002 ∷ 0x9000_0004 ∷ 0x9000_0001 ∷ 0xA000_0000 ∷ 0xB000_0002 ∷ 0xB000_0003 ∷ 0xB000_0000 ∷ 0xB000_0001 ∷ 0xC001_0001 ∷ 0xB000_0000 ∷ 0xC002_0100 ∷ 0xB000_0000 ∷ 0xB000_0000 ∷ 0xC001_0200 ∷ 0xB000_0001 ∷ 0x7000_000F ∷ []);
      });
    }
    ∷ []

-- each case is told as expected
abbrev pub Worked : Type 0
Worked = map told cases ≡ map (λ c. c.expected) cases
