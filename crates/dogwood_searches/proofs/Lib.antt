pub mod TableSearch
