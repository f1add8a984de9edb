-- The settings' limits and usual values (document 01: damping 0.85, 100 rounds, tolerance 1e-6), each number by its name. Definitions only.
use Rattle.std.specs.Prelude.{ℕ, Float}
use Rattle.std.specs.Float.{binary64}
use Rattle.std.specs.Float.Ieee.{of_bits}
use Rattle.answers.specs.declared.Settings.{Settings}

-- the most nodes of a graph
abbrev pub node_limit : ℕ
node_limit = 4096

-- the most edges of a graph
abbrev pub edge_limit : ℕ
edge_limit = 32768

-- the most nodes of a job of the program
abbrev pub job_node_limit : ℕ
job_node_limit = 512

-- the most edges of a job of the program
abbrev pub job_edge_limit : ℕ
job_edge_limit = 1024

-- the double nearest to 0.85
abbrev pub usual_damping : Float
usual_damping = of_bits binary64 0x3feb_3333_3333_3333

-- the double nearest to 1e-6
abbrev pub usual_tolerance : Float
usual_tolerance = of_bits binary64 0x3eb0_c6f7_a0b5_ed8d

-- the most rounds, unless a caller sets others
abbrev pub usual_rounds : ℕ
usual_rounds = 100

-- the three together
abbrev pub usual_settings : Settings
usual_settings = record { damping = usual_damping; tolerance = usual_tolerance; limit = usual_rounds }
