mod Numbers
mod FlushLists
mod ImageRanges
mod Asking
mod BaseSizes
