mod KeyPages
