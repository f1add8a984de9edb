-- Document 01's worked cases as one table: a row for each case, proved in the file of its layer. Assumes nothing.
use Rattle.worked.proofs.Betweenness.{P2, p2, P3Betweenness, p3_betweenness, P4Edges, p4_edges}
use Rattle.worked.proofs.Katz.{P7, p7}
use Rattle.worked.proofs.Other.{P4Laplacian, p4_laplacian, P5, p5}
use Rattle.worked.proofs.PageRank.{P6Pagerank, p6_pagerank}
use Rattle.worked.proofs.Roots.{P8, p8}
use Rattle.worked.proofs.Survey.{P1Survey, p1_survey, P3Survey, p3_survey}

pub record Table : Type 0 where
  pub survey_square : P1Survey
  pub betweenness_square : P2
  pub survey_doubled : P3Survey
  pub betweenness_doubled : P3Betweenness
  pub laplacian_path : P4Laplacian
  pub edges_path : P4Edges
  pub self_loop : P5
  pub pagerank_edge : P6Pagerank
  pub katz_arrow : P7
  pub roots : P8

pub table : Table
table =
    record {
      survey_square = p1_survey;
      betweenness_square = p2;
      survey_doubled = p3_survey;
      betweenness_doubled = p3_betweenness;
      laplacian_path = p4_laplacian;
      edges_path = p4_edges;
      self_loop = p5;
      pagerank_edge = p6_pagerank;
      katz_arrow = p7;
      roots = p8;
    }
